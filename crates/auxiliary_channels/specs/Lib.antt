pub mod Markers
pub mod Mirror
