pub mod Bounds
pub mod Cells
pub mod Choosing
pub mod Reading
pub mod Spreading
pub mod Ways
