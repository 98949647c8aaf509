-- The laws that the proofs of the functions cite.
pub mod Tallies
pub mod PushCounts
pub mod TotalTests
pub mod Running
pub mod OneStep
pub mod LevelRunning
pub mod Calling
pub mod Given
