pub mod Decimals
pub mod Differences
pub mod Claims
