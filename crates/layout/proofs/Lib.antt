-- Laws that the proofs of the functions use.
pub mod Decimal
pub mod Pieces
