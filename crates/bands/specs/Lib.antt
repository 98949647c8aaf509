-- The meanings that the contracts cite: what a reader must believe first, then the test that code runs, what is answered, and what else is claimed.
pub mod Bands
pub mod LeadTest
pub mod Answers
pub mod Claims
