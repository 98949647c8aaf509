-- The proofs of the claims, and the laws that the proofs of the functions share.
pub mod Printable
pub mod Printing
pub mod Claims
