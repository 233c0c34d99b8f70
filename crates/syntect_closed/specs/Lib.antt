pub mod Closed
pub mod Shelved
pub mod Found
pub use Rattle.syntect_parsing.specs.syntect_grammar as syntect_grammar
pub use Rattle.syntect_parsing.specs.syntect_grammar_contexts as syntect_grammar_contexts
pub use Rattle.syntect_parsing.specs.syntect_grammar_linker as syntect_grammar_linker
pub use Rattle.syntect_parsing.specs.syntect_grammar_loader as syntect_grammar_loader
pub use Rattle.syntect_parsing.specs.syntect_reading_choice as syntect_reading_choice
