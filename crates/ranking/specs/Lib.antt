-- The meanings that the contracts cite: first those that a reader of the public contracts needs, then those of the inner ones.
pub mod Zeros
pub mod Answers
pub mod Factorials
pub mod Weights
pub mod BySpots
