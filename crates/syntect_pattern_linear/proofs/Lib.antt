pub mod ChosenLaws
pub mod StepLaws
pub mod GroundLaws
pub mod RowLaws
pub mod WalkLaws
pub mod SequenceLaws
pub mod LoopLaws
pub mod FindLaws
pub mod StepsLaws
pub mod LeadLaws
pub mod MarkLaws
pub mod CostLaws
pub mod AlikeLaws
pub use Rattle.syntect_pattern_plan.proofs.syntect_count_proofs as syntect_count_proofs
pub use Rattle.syntect_pattern_plan.proofs.syntect_pattern_proofs as syntect_pattern_proofs
pub use Rattle.syntect_pattern_plan.proofs as syntect_pattern_plan_proofs
pub use Rattle.syntect_pattern_plan.proofs.syntect_pattern_steps_proofs as syntect_pattern_steps_proofs
