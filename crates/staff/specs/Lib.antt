pub mod Bars
pub mod Staffs
