pub mod BarItems
pub mod Steps
pub mod Walks
