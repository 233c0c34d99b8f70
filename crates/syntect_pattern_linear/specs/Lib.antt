pub mod Rows
pub mod Ground
pub mod Marks
pub mod Step
pub mod Walk
pub mod Finds
pub mod Steps
pub mod Linear
pub mod Guide
pub mod Alike
pub use Rattle.syntect_pattern_plan.specs.syntect_count as syntect_count
pub use Rattle.syntect_pattern_plan.specs.syntect_pattern as syntect_pattern
pub use Rattle.syntect_pattern_plan.specs as syntect_pattern_plan
pub use Rattle.syntect_pattern_plan.specs.syntect_pattern_steps as syntect_pattern_steps
pub use Rattle.syntect_pattern_plan.specs.syntect_pattern_table as syntect_pattern_table
