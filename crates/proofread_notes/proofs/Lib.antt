pub mod Areas
pub mod KeyWords
pub mod Meant
pub mod Rests
pub mod Scanning
