-- Laws that the proofs of the functions use.
pub mod Scanning
pub mod Indexing
pub mod Sorting
pub mod Numbers
pub mod ReadLevels
pub mod Pushing
pub mod Counting
