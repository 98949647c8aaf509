-- The proofs of the claims, and the laws that the proofs of the functions share.
pub mod Inversion
pub mod ByKind
pub mod ZeroSection
pub mod Valid
pub mod InMemory
pub mod Longest
pub mod Claims
pub mod Spelled
pub mod ByteNumbers
pub mod FaultNumbers
pub mod ByTests
pub mod Putting
pub mod Typed
