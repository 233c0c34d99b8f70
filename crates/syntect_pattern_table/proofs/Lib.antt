pub mod AlikeLaws
pub mod AsciiLaws
pub mod TableLaws
pub mod SetLaws
pub mod BuilderLaws
pub mod StartLaws
pub mod BeginLaws
pub mod PlaceLaws
pub mod PlaceListLaws
pub mod LookLaws
pub mod JumpLaws
pub mod LengthLaws
pub use Rattle.syntect_pattern.proofs as syntect_pattern_proofs
