pub mod UnreadLaws
pub mod ClosedLaws
pub mod HeadLaws
pub mod FrontLaws
pub mod GatherLaws
pub mod LinkingLaws
pub mod FileLaws
pub mod ShelvingLaws
