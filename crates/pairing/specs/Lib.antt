pub mod Outcome
pub mod Queues
pub mod Steps
