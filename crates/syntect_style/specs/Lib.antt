pub mod Cut
pub mod Buckets
pub mod Candidates
pub mod Items
pub mod Kept
pub mod Laws
pub mod Pieces
pub mod Rules
pub mod Styling
pub use Rattle.syntect_theme.specs.syntect_base as syntect_base
pub use Rattle.syntect_theme.specs.syntect_scope as syntect_scope
pub use Rattle.syntect_theme.specs as syntect_theme
