-- The meanings that the contracts cite.
pub mod Steps
pub mod LevelSteps
pub mod Calls
