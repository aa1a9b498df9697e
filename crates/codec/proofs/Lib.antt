pub mod Feeds
pub mod Sizes
pub mod Scans
pub mod Readers
pub mod Tables
pub mod Chars
pub mod Grammar
