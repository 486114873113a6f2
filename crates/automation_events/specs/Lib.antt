pub mod Kinds
pub mod Writing
