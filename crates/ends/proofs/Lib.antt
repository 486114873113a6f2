pub mod Grids
pub mod Passes
pub mod Midway
pub mod PartEnds
pub mod Bounds
