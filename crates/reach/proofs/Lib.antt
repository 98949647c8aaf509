-- Laws that the proofs of the functions use, and the proof of what is claimed.
pub mod Entries
pub mod Nearing
pub mod Branching
pub mod Sorted
pub mod Reaching
pub mod EachAfter
pub mod Led
pub mod Pieces
pub mod RowLoops
pub mod ListedBytes
pub mod Judging
