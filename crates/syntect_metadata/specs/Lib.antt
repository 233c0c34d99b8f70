pub mod Entries
pub mod Items
pub mod Merging
pub mod Ranking
pub mod Seen
pub mod Sets
pub use Rattle.syntect_regex.specs.syntect_count as syntect_count
pub use Rattle.syntect_regex.specs.syntect_pattern_seek as syntect_pattern_seek
pub use Rattle.syntect_regex.specs.syntect_pattern_table as syntect_pattern_table
pub use Rattle.syntect_regex.specs.syntect_pattern_word_ends as syntect_pattern_word_ends
pub use Rattle.syntect_regex.specs as syntect_regex
pub use Rattle.syntect_base.specs.syntect_scope as syntect_scope
