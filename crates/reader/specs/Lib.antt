-- What stands in a row that is read.
pub mod Rows
