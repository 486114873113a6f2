pub mod Demand
pub mod Engraved
pub mod Heard
pub mod Run
pub mod VoiceBar
