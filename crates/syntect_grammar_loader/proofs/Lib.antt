mod LoadingLaws
mod RoomLaws
mod EndLaws
pub mod NamedLaws
mod SyntaxFileLaws
pub use Rattle.syntect_base.proofs as syntect_base_proofs
pub use Rattle.syntect_grammar_rewrite.proofs as syntect_grammar_rewrite_proofs
pub use Rattle.syntect_yaml.proofs as syntect_yaml_proofs
