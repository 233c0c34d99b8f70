pub mod FirstLaws
pub mod FileLaws
pub mod FolderLaws
pub mod LenientLaws
pub mod PatternLaws
pub mod FittingLaws
pub use Rattle.syntect_grammar.proofs.syntect_base_proofs as syntect_base_proofs
pub use Rattle.syntect_grammar.proofs.syntect_count_proofs as syntect_count_proofs
pub use Rattle.syntect_grammar.proofs.syntect_grammar_rewrite_proofs as syntect_grammar_rewrite_proofs
