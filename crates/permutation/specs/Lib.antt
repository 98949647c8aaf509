-- The meanings that the contracts cite: first those that a reader of the public contracts needs, then those of the inner ones.
pub mod Records
pub mod Refusals
pub mod Answers
pub mod Insert
pub mod Spots
