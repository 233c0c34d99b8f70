pub mod ShownLaws
pub mod TextLaws
pub mod WriteLaws
pub use Rattle.syntect_assets.proofs.syntect_easy_proofs as syntect_easy_proofs
pub use Rattle.syntect_assets.proofs.syntect_grammar_limits_proofs as syntect_grammar_limits_proofs
