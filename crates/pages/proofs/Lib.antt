pub mod Ahead
pub mod Runs
pub mod Staffs
pub mod Rooms
