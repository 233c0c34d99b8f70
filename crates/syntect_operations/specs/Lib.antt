pub mod Print
pub mod Ranges
pub use Rattle.syntect_scope.specs as syntect_scope
