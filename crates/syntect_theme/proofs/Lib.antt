pub mod FlagLaws
pub mod FlagText
pub use Rattle.syntect_base.proofs as syntect_base_proofs
