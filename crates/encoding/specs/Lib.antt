-- The meanings of what is written, and what is claimed of them; then those that only inner contracts cite.
pub mod CommandKinds
pub mod SheetBytes
pub mod Said
pub mod Faults
pub mod Claims
pub mod Lays
