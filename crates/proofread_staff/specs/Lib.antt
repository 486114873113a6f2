pub mod Staffs
