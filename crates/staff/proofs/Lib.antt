pub mod BarWalk
pub mod StaffSizes
pub mod StaffWalk
