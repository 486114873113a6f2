pub mod DroppedLaws
pub mod MarkerLaws
pub mod MirrorLaws
