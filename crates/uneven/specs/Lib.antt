-- The meanings that the contracts cite: first those that a reader of the public contracts needs, then those of the inner ones.
pub mod Answers
pub mod Codebook
