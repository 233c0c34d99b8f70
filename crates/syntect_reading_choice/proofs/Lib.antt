pub mod ListLaws
pub mod BareLaws
pub mod DialectLaws
pub mod Finds
pub mod Places
pub mod BestLaws
pub mod PartLaws
pub mod RunLaws
pub mod AheadLaws
pub mod MidLaws
pub mod SweepLaws
pub mod StepLaws
pub mod ShorterLaws
pub use Rattle.syntect_reading_state.proofs.syntect_count_proofs as syntect_count_proofs
pub use Rattle.syntect_reading_state.proofs.syntect_grammar_proofs as syntect_grammar_proofs
pub use Rattle.syntect_reading_state.proofs.syntect_grammar_contexts_proofs as syntect_grammar_contexts_proofs
pub use Rattle.syntect_reading_state.proofs.syntect_grammar_linker_proofs as syntect_grammar_linker_proofs
pub use Rattle.syntect_reading_state.proofs as syntect_reading_state_proofs
pub use Rattle.syntect_reading_state.proofs.syntect_yaml_proofs as syntect_yaml_proofs
