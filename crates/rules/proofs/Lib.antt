pub mod Cases
pub mod FileLimits
pub mod Limits
pub mod Meanings
