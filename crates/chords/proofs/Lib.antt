pub mod Gathering
pub mod GivenNotes
pub mod Sorting
pub mod Stores
