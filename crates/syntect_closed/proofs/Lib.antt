pub mod EachLaws
pub mod ReachLaws
pub mod LinkLaws
pub mod ClosedReading
pub mod ShelvedLaws
pub mod FoundLaws
pub use Rattle.syntect_parsing.proofs as syntect_parsing_proofs
pub use Rattle.syntect_parsing.proofs.syntect_grammar_proofs as syntect_grammar_proofs
pub use Rattle.syntect_parsing.proofs.syntect_grammar_linker_proofs as syntect_grammar_linker_proofs
