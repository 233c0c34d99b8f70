pub mod RowLaws
pub mod SlimLaws
pub mod PackedLaws
pub mod ToldLaws
