pub mod Ends
pub use Rattle.syntect_pattern_table.specs.syntect_pattern as syntect_pattern
pub use Rattle.syntect_pattern_table.specs as syntect_pattern_table
