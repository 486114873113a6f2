pub mod Answers
pub mod Hearing
pub mod Measuring
pub mod Points
pub mod Shapes
pub mod Staffing
