pub mod Contexts
pub mod Errors
pub mod Substitution
pub use Rattle.syntect_regex.specs.syntect_pattern as syntect_pattern
pub use Rattle.syntect_regex.specs.syntect_pattern_table as syntect_pattern_table
pub use Rattle.syntect_scope.specs as syntect_scope
