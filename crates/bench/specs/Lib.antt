pub mod Lists
pub mod Columns
