pub mod Contexts
pub mod Patterns
pub mod Walk
pub mod Flats
pub mod Passing
pub mod Link
pub mod Metadata
pub mod Finding
pub mod Folders
pub mod Apart
pub mod Unlinked
pub mod PlainText
pub use Rattle.syntect_grammar_loader.specs.syntect_base as syntect_base
pub use Rattle.syntect_metadata.specs.syntect_count as syntect_count
pub use Rattle.syntect_grammar_linker.specs.syntect_grammar_contexts as syntect_grammar_contexts
pub use Rattle.syntect_grammar_linker.specs as syntect_grammar_linker
pub use Rattle.syntect_grammar_lists.specs as syntect_grammar_lists
pub use Rattle.syntect_grammar_loader.specs as syntect_grammar_loader
pub use Rattle.syntect_grammar_loader.specs.syntect_grammar_rewrite as syntect_grammar_rewrite
pub use Rattle.syntect_metadata.specs as syntect_metadata
pub use Rattle.syntect_grammar_loader.specs.syntect_pattern as syntect_pattern
pub use Rattle.syntect_metadata.specs.syntect_pattern_seek as syntect_pattern_seek
pub use Rattle.syntect_metadata.specs.syntect_pattern_table as syntect_pattern_table
pub use Rattle.syntect_metadata.specs.syntect_pattern_word_ends as syntect_pattern_word_ends
pub use Rattle.syntect_metadata.specs.syntect_regex as syntect_regex
pub use Rattle.syntect_grammar_linker.specs.syntect_scope as syntect_scope
pub use Rattle.syntect_grammar_loader.specs.syntect_yaml as syntect_yaml
