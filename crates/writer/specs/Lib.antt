-- The meanings that the contracts cite.
pub mod Answers
pub mod RoundTrips
