pub mod Numbers
pub mod LinkLaws
pub mod Walks
pub mod LeadsLaws
pub mod ReachedLaws
pub mod UnlinkedLaws
pub use Rattle.syntect_grammar_contexts.proofs as syntect_grammar_contexts_proofs
