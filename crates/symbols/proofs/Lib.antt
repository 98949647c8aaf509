-- Laws that the proofs of the functions use.
pub mod Lengths
pub mod Codes
pub mod Writing
pub mod PrefixRows
pub mod Choosing
pub mod Prefixing
pub mod Along
pub mod Leading
pub mod Storing
pub mod PrefixDigits
pub mod Symbols
