pub mod TextLaws
pub mod BoundaryLaws
pub mod OkLaws
pub mod LineLaws
pub use Rattle.syntect_pattern.proofs as syntect_pattern_proofs
pub use Rattle.syntect_pattern_table.proofs as syntect_pattern_table_proofs
