-- Laws that the proofs of the functions use.
pub mod Refusals
pub mod Records
pub mod PushedRows
pub mod Answering
pub mod Inserting
pub mod Reflecting
pub mod Spots
pub mod Marks
pub mod Meeting
pub mod Checking
