pub mod Steps
pub mod First
pub use Rattle.syntect_pattern.specs as syntect_pattern
pub use Rattle.syntect_pattern_table.specs as syntect_pattern_table
