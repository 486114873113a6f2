pub mod Few
pub mod InBar
pub mod Sounding
pub mod VoiceWalk
