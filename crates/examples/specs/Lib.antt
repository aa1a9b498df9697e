pub mod Numbers
pub mod Columns
