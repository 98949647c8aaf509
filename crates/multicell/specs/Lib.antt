-- The meanings that the contracts cite: what a reader must believe first, then what is claimed, what is answered, and what inner contracts cite.
pub mod Arrangement
pub mod Cost
pub mod Claims
pub mod Answers
pub mod Pricing
