pub mod FirstLines
pub mod FilesWithin
pub mod FoldersWithin
pub mod WhatLoads
pub mod Patterns
pub mod Limited
pub mod Fitting
pub use Rattle.syntect_grammar.specs.syntect_base as syntect_base
pub use Rattle.syntect_grammar.specs.syntect_count as syntect_count
pub use Rattle.syntect_grammar.specs as syntect_grammar
pub use Rattle.syntect_grammar.specs.syntect_grammar_contexts as syntect_grammar_contexts
pub use Rattle.syntect_grammar.specs.syntect_grammar_linker as syntect_grammar_linker
pub use Rattle.syntect_grammar.specs.syntect_grammar_loader as syntect_grammar_loader
pub use Rattle.syntect_grammar.specs.syntect_grammar_rewrite as syntect_grammar_rewrite
pub use Rattle.syntect_grammar.specs.syntect_metadata as syntect_metadata
pub use Rattle.syntect_yaml.specs as syntect_yaml
