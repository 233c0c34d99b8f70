pub mod Flags
pub mod Modifying
pub mod Refusals
pub mod Texts
pub mod Themes
pub use Rattle.syntect_base.specs as syntect_base
pub use Rattle.syntect_base.specs.syntect_scope as syntect_scope
