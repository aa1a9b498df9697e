pub mod Feed
pub mod Sinks
pub mod Leb128
pub mod Frames
pub mod Refusals
pub mod Utf8
pub mod Elements
pub mod Laws
