pub mod Assets
pub mod Gathered
pub mod Refusals
pub mod Screen
pub mod Texts
pub mod WhatLoads
pub use Rattle.syntect_easy.specs.syntect_base as syntect_base
pub use Rattle.syntect_easy.specs as syntect_easy
pub use Rattle.syntect_easy.specs.syntect_grammar as syntect_grammar
pub use Rattle.syntect_easy.specs.syntect_grammar_contexts as syntect_grammar_contexts
pub use Rattle.syntect_easy.specs.syntect_grammar_limits as syntect_grammar_limits
pub use Rattle.syntect_easy.specs.syntect_grammar_loader as syntect_grammar_loader
pub use Rattle.syntect_easy.specs.syntect_parsing as syntect_parsing
pub use Rattle.syntect_easy.specs.syntect_reading_choice as syntect_reading_choice
pub use Rattle.syntect_easy.specs.syntect_scope as syntect_scope
pub use Rattle.syntect_easy.specs.syntect_style as syntect_style
pub use Rattle.syntect_easy.specs.syntect_theme as syntect_theme
pub use Rattle.syntect_easy.specs.syntect_theme_files as syntect_theme_files
pub use Rattle.syntect_easy.specs.syntect_writers as syntect_writers
