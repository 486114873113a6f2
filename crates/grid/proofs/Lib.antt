pub mod StartCounts
pub mod Counting
