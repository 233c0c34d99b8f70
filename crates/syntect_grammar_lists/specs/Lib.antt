pub mod Rows
pub mod Sides
pub mod Slims
pub mod Told
pub mod Packed
pub mod Entered
pub use Rattle.syntect_grammar_contexts.specs.syntect_pattern_table as syntect_pattern_table
