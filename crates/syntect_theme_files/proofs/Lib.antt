pub mod FileLaws
pub mod LoadLaws
pub use Rattle.syntect_theme.proofs.syntect_base_proofs as syntect_base_proofs
