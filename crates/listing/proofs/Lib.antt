-- The proofs of the claims, and the laws that the proofs of the functions use.
pub mod Claims
pub mod ListRows
pub mod Listing
