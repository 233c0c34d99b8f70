pub use Rattle.syntect_pattern_seek.specs.syntect_pattern.Pattern
pub use Rattle.syntect_pattern_seek.specs.syntect_pattern.Matches
pub use Rattle.syntect_pattern_seek.specs.syntect_pattern.Nesting
pub use Rattle.syntect_pattern_seek.specs.syntect_pattern.Found
pub use Rattle.syntect_pattern_word_ends.specs.Ends
pub use Rattle.syntect_pattern_seek.specs.Prospect
pub use Rattle.syntect_pattern_seek.specs.Depths
pub mod Region
pub mod Escape
pub mod Begins
pub mod Bounds
pub mod Details
pub mod Looks
pub mod Outline
pub mod Body
pub mod Kept
pub mod Groups
pub use Rattle.syntect_pattern_seek.specs.syntect_count as syntect_count
pub use Rattle.syntect_pattern_seek.specs.syntect_pattern as syntect_pattern
pub use Rattle.syntect_pattern_seek.specs.syntect_pattern_backtrack as syntect_pattern_backtrack
pub use Rattle.syntect_pattern_seek.specs.syntect_pattern_compile as syntect_pattern_compile
pub use Rattle.syntect_pattern_seek.specs.syntect_pattern_plan as syntect_pattern_plan
pub use Rattle.syntect_pattern_seek.specs as syntect_pattern_seek
pub use Rattle.syntect_pattern_word_ends.specs.syntect_pattern_table as syntect_pattern_table
pub use Rattle.syntect_pattern_word_ends.specs as syntect_pattern_word_ends
