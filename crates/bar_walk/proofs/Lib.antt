pub mod Outputs
pub mod SkipLaws
pub mod StepLaws
pub mod WalkLaws
