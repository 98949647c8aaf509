-- The theorems, from the laws that they use to `Claims`.
pub mod Index
pub mod Better
pub mod Plan
pub mod LedBlock
pub mod Arrange
pub mod Room
pub mod Assign
pub mod Symbols
pub mod Best
pub mod Sequence
pub mod First
pub mod Only
pub mod Examples
pub mod Claims
