-- Laws that the proofs of the functions use, and the proofs of what is claimed.
pub mod Above
pub mod Choices
pub mod Leading
pub mod Sure
pub mod Judging
pub mod Testing
pub mod Rows
pub mod Orders
pub mod Symbols
pub mod Claims
