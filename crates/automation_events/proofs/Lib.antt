pub mod CountLaws
pub mod KindLaws
pub mod StageLaws
pub mod WritingLaws
