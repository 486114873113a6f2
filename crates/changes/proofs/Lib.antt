pub mod ChangeLaws
pub mod HeadLaws
pub mod ProgramLaws
