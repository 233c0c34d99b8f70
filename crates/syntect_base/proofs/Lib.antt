mod NameLaws
pub mod ReadLaws
pub mod WalkLaws
