pub mod Onward
pub mod Cells
pub mod Facts
pub mod Plan
pub mod PlanOf
pub mod Build
pub mod Linear
pub mod Spelt
pub mod Order
pub mod Passes
pub mod Sights
pub use Rattle.syntect_count.specs as syntect_count
pub use Rattle.syntect_pattern_steps.specs.syntect_pattern as syntect_pattern
pub use Rattle.syntect_pattern_steps.specs as syntect_pattern_steps
pub use Rattle.syntect_pattern_steps.specs.syntect_pattern_table as syntect_pattern_table
