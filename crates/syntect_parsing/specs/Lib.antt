pub mod States
pub mod Turn
pub mod Visible
pub mod Scopes
pub mod Stacks
pub mod Open
pub mod Line
pub mod Laws
pub mod Sorting
pub mod MatchViews
pub mod Operations
pub mod Refusals
pub mod Orderly
pub mod Meaning
pub mod Step
pub mod Bound
pub mod Standing
pub mod Work
pub mod Within
pub use Rattle.syntect_reading_choice.specs.syntect_base as syntect_base
pub use Rattle.syntect_reading_choice.specs.syntect_count as syntect_count
pub use Rattle.syntect_reading_choice.specs.syntect_grammar as syntect_grammar
pub use Rattle.syntect_reading_choice.specs.syntect_grammar_contexts as syntect_grammar_contexts
pub use Rattle.syntect_reading_choice.specs.syntect_grammar_linker as syntect_grammar_linker
pub use Rattle.syntect_reading_choice.specs.syntect_grammar_loader as syntect_grammar_loader
pub use Rattle.syntect_reading_choice.specs.syntect_grammar_rewrite as syntect_grammar_rewrite
pub use Rattle.syntect_reading_choice.specs.syntect_pattern as syntect_pattern
pub use Rattle.syntect_reading_choice.specs as syntect_reading_choice
pub use Rattle.syntect_reading_choice.specs.syntect_reading_state as syntect_reading_state
pub use Rattle.syntect_reading_choice.specs.syntect_regex as syntect_regex
pub use Rattle.syntect_reading_choice.specs.syntect_scope as syntect_scope
pub use Rattle.syntect_reading_choice.specs.syntect_yaml as syntect_yaml
