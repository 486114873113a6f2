pub mod Examples
pub mod Large
pub mod Reading
