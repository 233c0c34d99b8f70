pub mod ClassedLaws
pub mod DocumentLaws
pub mod JoinLaws
pub mod NumberedLaws
pub mod SheetLaws
