pub mod Chords
pub mod Columns
