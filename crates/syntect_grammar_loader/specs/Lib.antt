pub mod LoadingSteps
pub mod LoadingValues
pub mod LoadingParts
pub mod LoadingContexts
pub mod Loading
pub mod Named
pub mod Files
pub use Rattle.syntect_base.specs as syntect_base
pub use Rattle.syntect_grammar_rewrite.specs as syntect_grammar_rewrite
pub use Rattle.syntect_base.specs.syntect_pattern as syntect_pattern
pub use Rattle.syntect_base.specs.syntect_scope as syntect_scope
pub use Rattle.syntect_yaml.specs as syntect_yaml
