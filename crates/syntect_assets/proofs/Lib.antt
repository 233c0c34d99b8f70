pub mod AssetsLaws
pub mod LoadingLaws
pub mod TextLaws
pub use Rattle.syntect_easy.proofs as syntect_easy_proofs
pub use Rattle.syntect_easy.proofs.syntect_grammar_limits_proofs as syntect_grammar_limits_proofs
