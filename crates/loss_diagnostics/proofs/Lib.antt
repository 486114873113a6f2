pub mod FirstTrack
pub mod Groups
pub mod Walking
