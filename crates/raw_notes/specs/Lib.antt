pub mod Columns
pub mod Stages
