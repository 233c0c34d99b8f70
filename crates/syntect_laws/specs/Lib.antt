pub mod Inner
pub mod LoaderLaws
pub mod ReadingLaws
pub mod YamlTexts
pub mod Flow
pub mod YamlLaws
pub mod Literal
pub mod Block
pub use Rattle.syntect_parsing.specs.syntect_grammar as syntect_grammar
pub use Rattle.syntect_parsing.specs.syntect_grammar_contexts as syntect_grammar_contexts
pub use Rattle.syntect_parsing.specs.syntect_grammar_linker as syntect_grammar_linker
pub use Rattle.syntect_parsing.specs.syntect_grammar_loader as syntect_grammar_loader
pub use Rattle.syntect_parsing.specs.syntect_grammar_rewrite as syntect_grammar_rewrite
pub use Rattle.syntect_parsing.specs.syntect_pattern as syntect_pattern
pub use Rattle.syntect_parsing.specs.syntect_reading_choice as syntect_reading_choice
pub use Rattle.syntect_parsing.specs.syntect_reading_state as syntect_reading_state
pub use Rattle.syntect_parsing.specs.syntect_regex as syntect_regex
pub use Rattle.syntect_parsing.specs.syntect_scope as syntect_scope
