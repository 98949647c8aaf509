-- Laws that the proofs of the functions use.
pub mod AheadCount
pub mod Ranges
pub mod Totals
pub mod Tails
pub mod Searching
pub mod Booking
pub mod SymbolLed
pub mod UnevenRows
pub mod UnevenStoring
pub mod UnevenReading
