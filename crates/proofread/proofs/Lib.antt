pub mod Collected
pub mod Reading
