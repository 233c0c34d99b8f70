pub mod References
pub mod Reached
pub mod Inclusions
pub mod LinkedContexts
pub mod Gifts
pub mod Unlinked
pub use Rattle.syntect_grammar_contexts.specs as syntect_grammar_contexts
pub use Rattle.syntect_grammar_contexts.specs.syntect_scope as syntect_scope
