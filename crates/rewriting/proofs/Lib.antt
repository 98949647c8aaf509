-- Laws that the proofs of the functions use.
pub mod Raising
pub mod Judging
pub mod Sequence
pub mod Targets
pub mod Rewriting
