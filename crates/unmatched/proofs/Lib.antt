pub mod Running
pub mod Taking
pub mod Turns
