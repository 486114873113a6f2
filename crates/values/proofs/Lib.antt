pub mod Entries
pub mod Skipped
pub mod Spreading
pub mod Tables
