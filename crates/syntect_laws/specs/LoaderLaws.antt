-- Bounds on how deep contexts nest.
use Rattle.std.specs.Prelude.{◌≡◌, ℕ, ◌≤◌, Bool, List, Option}
use Rattle.syntect_yaml.specs.Node.{Node}
use Rattle.syntect_yaml.specs.Yaml.{deepest}
use Rattle.syntect_laws.specs.syntect_grammar_loader.LoadingContexts.{context}
use Rattle.syntect_laws.specs.syntect_grammar_loader.Loading.{loaded}
use Rattle.syntect_laws.specs.YamlLaws.{nesting}
use Rattle.syntect_laws.specs.Inner.{Inner, definition_over, loaded_over, context_above}

-- A bound on contexts as great as a value is deep is enough for it: any greater one gives the same
-- definition, or the same refusal.
abbrev pub DepthIsEnough : Type 0
DepthIsEnough =
    (v : Node) (n : ℕ) (lines_include_newline : Bool) (fallback : Option (List ℕ))
    (repository : List (List ℕ))
    → nesting v ≤ n
    → definition_over (context n) v lines_include_newline fallback repository
    ≡ definition_over (context (nesting v)) v lines_include_newline fallback repository

-- No text has another definition, or another refusal, where contexts may nest deeper.
abbrev pub DepthIsNotFelt : Type 0
DepthIsNotFelt =
    (text : List ℕ) (n : ℕ) (lines_include_newline : Bool) (fallback : Option (List ℕ))
    (repository : List (List ℕ))
    → deepest ≤ n
    → loaded_over (context n) text lines_include_newline fallback repository
    ≡ loaded text lines_include_newline fallback repository

-- No text has a context at the bound, where it would be refused: whatever is done with one there,
-- each text has the same definition, or the same refusal.
abbrev pub BoundIsNotReached : Type 0
BoundIsNotReached =
    (text : List ℕ) (deep : Inner) (lines_include_newline : Bool) (fallback : Option (List ℕ))
    (repository : List (List ℕ))
    → loaded_over (context_above deep deepest) text lines_include_newline fallback repository
    ≡ loaded text lines_include_newline fallback repository
