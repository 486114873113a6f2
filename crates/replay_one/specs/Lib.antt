pub mod Comparing
pub mod Rooms
