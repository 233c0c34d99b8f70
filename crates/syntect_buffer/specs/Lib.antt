pub mod Answers
pub mod Fresh
pub mod Kept
pub mod States
pub use Rattle.syntect_documents.specs.syntect_base as syntect_base
pub use Rattle.syntect_documents.specs.syntect_grammar as syntect_grammar
pub use Rattle.syntect_documents.specs.syntect_grammar_contexts as syntect_grammar_contexts
pub use Rattle.syntect_documents.specs.syntect_grammar_loader as syntect_grammar_loader
pub use Rattle.syntect_documents.specs.syntect_parsing as syntect_parsing
pub use Rattle.syntect_documents.specs.syntect_reading_choice as syntect_reading_choice
pub use Rattle.syntect_documents.specs.syntect_scope as syntect_scope
pub use Rattle.syntect_documents.specs.syntect_style as syntect_style
pub use Rattle.syntect_documents.specs.syntect_theme as syntect_theme
pub use Rattle.syntect_documents.specs.syntect_easy as syntect_easy
pub use Rattle.syntect_documents.specs.syntect_assets as syntect_assets
pub use Rattle.syntect_documents.specs as syntect_documents
