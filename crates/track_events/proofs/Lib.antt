pub mod Tracks
pub mod WordTable
pub mod Ranges
pub mod KindNumbers
