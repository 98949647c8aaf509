-- Laws that the proofs of the functions use, and the proofs of the claims.
pub mod Jobs
pub mod Zipped
pub mod Working
pub mod GroupValues
pub mod Outcomes
pub mod Claims
