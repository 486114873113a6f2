pub mod Examples
pub mod Commas
