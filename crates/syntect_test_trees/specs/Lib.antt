pub mod Fakes
pub use Rattle.syntect_cat.specs.syntect_base as syntect_base
pub use Rattle.syntect_cat.specs.syntect_easy as syntect_easy
pub use Rattle.syntect_cat.specs.syntect_grammar as syntect_grammar
pub use Rattle.syntect_cat.specs.syntect_grammar_contexts as syntect_grammar_contexts
pub use Rattle.syntect_cat.specs.syntect_grammar_loader as syntect_grammar_loader
