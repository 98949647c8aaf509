-- Laws that the proofs of the functions use.
pub mod Passed
pub mod Circle
pub mod BySpots
pub mod Values
pub mod Table
pub mod Unranking
