pub mod HeadLaws
pub mod Room
pub mod SameLaws
pub mod WalkLaws
pub mod FrameLaws
pub mod FlatLaws
pub mod FindLaws
pub mod FolderLaws
pub mod ApartLaws
pub use Rattle.syntect_grammar_loader.proofs.syntect_base_proofs as syntect_base_proofs
pub use Rattle.syntect_metadata.proofs.syntect_count_proofs as syntect_count_proofs
pub use Rattle.syntect_grammar_linker.proofs.syntect_grammar_contexts_proofs as syntect_grammar_contexts_proofs
pub use Rattle.syntect_grammar_linker.proofs as syntect_grammar_linker_proofs
pub use Rattle.syntect_grammar_loader.proofs.syntect_grammar_rewrite_proofs as syntect_grammar_rewrite_proofs
pub use Rattle.syntect_metadata.proofs.syntect_regex_proofs as syntect_regex_proofs
pub use Rattle.syntect_grammar_loader.proofs.syntect_yaml_proofs as syntect_yaml_proofs
