-- Laws that the proofs of the functions use, and the proof of what is claimed.
pub mod Arranging
pub mod Differences
pub mod Changing
pub mod Examples
pub mod Claims
pub mod Tally
pub mod LargestSoFar
pub mod Judging
