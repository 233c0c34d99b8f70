pub mod Engine
pub mod Chain
pub mod Turn
pub mod Found
pub mod ChoiceViews
pub mod Parts
pub mod Bare
pub mod Shorter
pub mod Reader
pub mod Ahead
pub mod Best
pub mod Memory
pub mod Steps
pub mod Halt
pub use Rattle.syntect_reading_state.specs.syntect_base as syntect_base
pub use Rattle.syntect_reading_state.specs.syntect_count as syntect_count
pub use Rattle.syntect_reading_state.specs.syntect_grammar as syntect_grammar
pub use Rattle.syntect_reading_state.specs.syntect_grammar_contexts as syntect_grammar_contexts
pub use Rattle.syntect_reading_state.specs.syntect_grammar_linker as syntect_grammar_linker
pub use Rattle.syntect_reading_state.specs.syntect_grammar_lists as syntect_grammar_lists
pub use Rattle.syntect_reading_state.specs.syntect_grammar_loader as syntect_grammar_loader
pub use Rattle.syntect_reading_state.specs.syntect_grammar_rewrite as syntect_grammar_rewrite
pub use Rattle.syntect_reading_state.specs.syntect_pattern as syntect_pattern
pub use Rattle.syntect_reading_state.specs.syntect_pattern_table as syntect_pattern_table
pub use Rattle.syntect_reading_state.specs.syntect_pattern_word_ends as syntect_pattern_word_ends
pub use Rattle.syntect_reading_state.specs as syntect_reading_state
pub use Rattle.syntect_reading_state.specs.syntect_regex as syntect_regex
pub use Rattle.syntect_reading_state.specs.syntect_scope as syntect_scope
pub use Rattle.syntect_reading_state.specs.syntect_yaml as syntect_yaml
