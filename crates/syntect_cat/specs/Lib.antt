pub mod Faults
pub mod Notes
pub mod Shown
pub mod Texts
pub mod Words
pub mod Written
pub use Rattle.syntect_assets.specs as syntect_assets
pub use Rattle.syntect_assets.specs.syntect_base as syntect_base
pub use Rattle.syntect_assets.specs.syntect_easy as syntect_easy
pub use Rattle.syntect_assets.specs.syntect_grammar as syntect_grammar
pub use Rattle.syntect_assets.specs.syntect_grammar_contexts as syntect_grammar_contexts
pub use Rattle.syntect_assets.specs.syntect_grammar_limits as syntect_grammar_limits
pub use Rattle.syntect_assets.specs.syntect_grammar_loader as syntect_grammar_loader
pub use Rattle.syntect_assets.specs.syntect_parsing as syntect_parsing
pub use Rattle.syntect_assets.specs.syntect_theme as syntect_theme
pub use Rattle.syntect_assets.specs.syntect_theme_files as syntect_theme_files
pub use Rattle.syntect_assets.specs.syntect_writers as syntect_writers
