-- The meanings that the contracts cite, and the claims.
pub mod Answers
pub mod Claims
