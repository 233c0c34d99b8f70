pub mod Ahead
pub mod Names
pub mod Limiting
pub mod Refusals
pub mod Settings
pub mod Trees
pub mod Walks
pub use Rattle.syntect_pattern.specs as syntect_pattern
pub use Rattle.syntect_scope.specs as syntect_scope
