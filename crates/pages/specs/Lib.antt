pub mod Page
pub mod Spots
pub mod Steps
pub mod Claims
