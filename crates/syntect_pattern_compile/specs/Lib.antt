pub mod Compiled
pub mod ClassViews
pub mod JoinViews
pub mod ReaderViews
pub mod NeedViews
pub use Rattle.syntect_pattern.specs as syntect_pattern
pub use Rattle.syntect_pattern_table.specs as syntect_pattern_table
