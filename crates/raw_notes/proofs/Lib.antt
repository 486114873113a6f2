pub mod Closing
pub mod Gathering
pub mod Listing
pub mod Ready
pub mod Running
pub mod Turns
