pub mod Places
pub mod Heads
pub mod Unread
pub mod Gathering
pub mod Shelving
pub use Rattle.syntect_grammar.specs as syntect_grammar
pub use Rattle.syntect_grammar_limits.specs as syntect_grammar_limits
