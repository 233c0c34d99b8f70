pub mod WordLaws
pub mod EndLaws
pub mod SpanLaws
pub use Rattle.syntect_pattern_table.proofs.syntect_pattern_proofs as syntect_pattern_proofs
pub use Rattle.syntect_pattern_table.proofs as syntect_pattern_table_proofs
