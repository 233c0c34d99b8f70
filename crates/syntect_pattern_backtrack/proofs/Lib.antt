pub mod WorkLaws
pub mod MachineLaws
pub mod StepLaws
pub mod TurnLaws
pub mod BackLaws
pub mod CutLaws
pub mod EnterLaws
pub mod DeadLaws
pub mod FirstLaws
pub mod StepsLaws
pub mod LookbehindLaws
pub mod RunLaws
pub mod EndLaws
pub mod FindLaws
pub mod StretchLaws
pub mod PassLaws
pub mod LetterLaws
pub mod LineLaws
pub mod NeedLaws
pub use Rattle.syntect_count.proofs as syntect_count_proofs
pub use Rattle.syntect_pattern_steps.proofs.syntect_pattern_proofs as syntect_pattern_proofs
pub use Rattle.syntect_pattern_steps.proofs as syntect_pattern_steps_proofs
pub use Rattle.syntect_pattern_steps.proofs.syntect_pattern_table_proofs as syntect_pattern_table_proofs
