pub mod ReachLaws
pub mod TreeLaws
pub mod OnwardLaws
pub mod FactLaws
pub mod PlanLaws
pub mod FoldLaws
pub mod CellLaws
pub mod BuildLaws
pub mod MakesLaws
pub mod LinearLaws
pub mod SpeltLaws
pub mod OrderLaws
pub mod ChosenLaws
pub mod SightLaws
pub use Rattle.syntect_count.proofs as syntect_count_proofs
pub use Rattle.syntect_pattern_steps.proofs.syntect_pattern_proofs as syntect_pattern_proofs
pub use Rattle.syntect_pattern_steps.proofs as syntect_pattern_steps_proofs
pub use Rattle.syntect_pattern_steps.proofs.syntect_pattern_table_proofs as syntect_pattern_table_proofs
