-- The meanings that the contracts cite, and the claims.
pub mod Work
pub mod Answers
pub mod Claims
