pub mod Turns
pub mod Claimed
