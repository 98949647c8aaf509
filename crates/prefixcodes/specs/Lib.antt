-- The meanings: first those that a reader needs, then that of proofs and of inner contracts.
pub mod Code
pub mod Construction
pub mod Examples
pub mod Claims
pub mod Leaves
