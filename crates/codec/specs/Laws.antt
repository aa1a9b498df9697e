pub mod Powers
pub mod Groups
pub mod Frames
pub mod Signs
pub mod Spelling
pub mod Codes
pub mod Numbers
pub mod Kinds
