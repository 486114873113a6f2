pub mod Kinds
pub mod Track
