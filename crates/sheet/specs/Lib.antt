-- The meanings that the contracts cite: first those that a reader of `read_sheet`'s and `write_sheet`'s needs, then those of the inner ones.
pub mod Bytes
pub mod ZeroSection
pub mod Sheet
pub mod Held
pub mod Claims
pub mod Typed
pub mod Putting
pub mod Parts
pub mod Standing
