pub mod Answers
pub mod Examined
