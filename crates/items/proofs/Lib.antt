pub mod Appending
pub mod Pieces
pub mod Putting
pub mod Spans
pub mod Ties
