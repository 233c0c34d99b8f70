pub mod Built
pub mod Classed
pub mod ClassedPages
pub mod Files
pub mod Leads
pub mod LineErrors
pub mod Loaded
pub mod Pages
pub mod PlainLines
pub mod Promises
pub mod Rows
pub mod Within
pub use Rattle.syntect_writers.specs.Classes
pub use Rattle.syntect_writers.specs.Marks
pub use Rattle.syntect_writers.specs.Laws
pub use Rattle.syntect_writers.specs.Page
pub use Rattle.syntect_grammar_limits.specs.syntect_grammar_contexts.declared.syntax_reference.SyntaxReference
pub use Rattle.syntect_style.specs.syntect_base.Trees
pub use Rattle.syntect_style.specs.syntect_base.Walks
pub use Rattle.syntect_style.specs.syntect_base.declared.limits.Limits
pub use Rattle.syntect_grammar_limits.specs.FilesWithin
pub use Rattle.syntect_grammar_limits.specs.FoldersWithin
pub use Rattle.syntect_grammar_limits.specs.syntect_grammar.Finding
pub use Rattle.syntect_grammar_limits.specs.syntect_grammar.Folders
pub use Rattle.syntect_grammar_limits.specs.syntect_grammar.Link
pub use Rattle.syntect_grammar_limits.specs.syntect_grammar.PlainText
pub use Rattle.syntect_grammar_limits.specs.syntect_grammar.declared.error.Error
pub use Rattle.syntect_grammar_limits.specs.syntect_grammar.declared.syntax_set.SyntaxSet
pub use Rattle.syntect_grammar_limits.specs.syntect_grammar.declared.syntax_set.SyntaxSetBuilder
pub use Rattle.syntect_grammar_limits.specs.syntect_grammar_loader.Loading
pub use Rattle.syntect_grammar_limits.specs.syntect_grammar_loader.declared.definition.SyntaxDefinition
pub use Rattle.syntect_parsing.specs.Line
pub use Rattle.syntect_style.specs.Pieces
pub use Rattle.syntect_style.specs.syntect_theme.declared.style.Style
pub use Rattle.syntect_style.specs.syntect_theme.declared.theme.Theme
pub use Rattle.syntect_theme_files.specs.ThemeFiles
pub use Rattle.syntect_writers.specs.Lines
pub use Rattle.syntect_writers.specs.Spans
pub use Rattle.syntect_writers.specs.Terminal
pub use Rattle.syntect_style.specs.syntect_base as syntect_base
pub use Rattle.syntect_grammar_limits.specs.syntect_grammar as syntect_grammar
pub use Rattle.syntect_grammar_limits.specs.syntect_grammar_contexts as syntect_grammar_contexts
pub use Rattle.syntect_grammar_limits.specs as syntect_grammar_limits
pub use Rattle.syntect_grammar_limits.specs.syntect_grammar_linker as syntect_grammar_linker
pub use Rattle.syntect_grammar_limits.specs.syntect_grammar_loader as syntect_grammar_loader
pub use Rattle.syntect_parsing.specs as syntect_parsing
pub use Rattle.syntect_parsing.specs.syntect_reading_choice as syntect_reading_choice
pub use Rattle.syntect_operations.specs.syntect_scope as syntect_scope
pub use Rattle.syntect_style.specs as syntect_style
pub use Rattle.syntect_style.specs.syntect_theme as syntect_theme
pub use Rattle.syntect_theme_files.specs as syntect_theme_files
pub use Rattle.syntect_writers.specs as syntect_writers
pub use Rattle.syntect_grammar_limits.specs.syntect_yaml as syntect_yaml
