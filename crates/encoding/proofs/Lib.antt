-- The proofs of the claims, and the laws that the proofs of the functions share.
pub mod Numbers
pub mod Judged
pub mod Accepted
pub mod NewNumbers
pub mod Verdicts
pub mod ReadAgain
pub mod WrittenAgain
pub mod Same
pub mod Unsaid
pub mod Claims
pub mod ByTests
pub mod Pieces
pub mod Spelling
pub mod Lays
pub mod PartsPut
pub mod SectionPut
