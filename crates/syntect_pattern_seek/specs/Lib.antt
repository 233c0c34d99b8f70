pub mod Prospect
pub mod Bounds
pub mod Depths
pub use Rattle.syntect_pattern_backtrack.specs.syntect_count as syntect_count
pub use Rattle.syntect_pattern_compile.specs.syntect_pattern as syntect_pattern
pub use Rattle.syntect_pattern_backtrack.specs as syntect_pattern_backtrack
pub use Rattle.syntect_pattern_compile.specs as syntect_pattern_compile
pub use Rattle.syntect_pattern_linear.specs.syntect_pattern_plan as syntect_pattern_plan
pub use Rattle.syntect_pattern_compile.specs.syntect_pattern_table as syntect_pattern_table
