pub mod Loading
pub mod Refusals
pub mod ThemeFiles
pub use Rattle.syntect_theme.specs.syntect_base as syntect_base
pub use Rattle.syntect_theme.specs.syntect_scope as syntect_scope
