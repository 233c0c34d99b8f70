-- What loaded grammars are known by: each byte of their texts has a scope.
use Rattle.std.specs.Prelude.{◌≢◌, ℕ, List, [], ◌∷◌, ◌++◌}
use Rattle.syntect_reading_choice.specs.Engine.{Engine}
use Rattle.syntect_parsing.specs.syntect_grammar.Contexts.{part_of}
use Rattle.syntect_parsing.specs.Scopes.{Scopes}
use Rattle.syntect_parsing.specs.Line.{Answer, Accepted, RefusedBy, AnswersAll, start}
use Rattle.syntect_parsing.specs.Refusals.{IsClosed, IsNeverLeft}
use Rattle.syntect_parsing.specs.Open.{ClearsNothing}
use Rattle.syntect_parsing.specs.syntect_grammar_contexts.declared.context.ContextId.{ContextId}
use Rattle.syntect_parsing.specs.syntect_grammar.declared.syntax_set.SyntaxSet.{SyntaxSet}
use Rattle.syntect_parsing.specs.States.{Standing}

-- each byte of a line has a scope
abbrev pub HaveScopes : List Scopes → Type 0
HaveScopes [] = Unit {0}
HaveScopes (scopes ∷ bytes) = (scopes ≢ []) × HaveScopes bytes

-- so has each byte of each line that is accepted
abbrev pub GiveScopes : List Answer → Type 0
GiveScopes [] = Unit {0}
GiveScopes (Accepted bytes ∷ answers) = HaveScopes bytes × GiveScopes answers
GiveScopes (RefusedBy e ∷ answers) = GiveScopes answers

-- From the start in a context that is never left and has a scope of its own, in a set that clears
-- nothing, each byte of each line that is accepted has a scope.
abbrev pub BytesHaveScopes : Type 0
BytesHaveScopes =
    (engine : Engine) (set : SyntaxSet) (id : ContextId) (lines : List (List ℕ))
    (answers : List Answer) (state : Standing)
    → IsClosed set → IsNeverLeft set id → ClearsNothing set
    → part_of (λ c. c.meta_scope ++ c.meta_content_scope) set id ≢ []
    → AnswersAll engine set lines (start id) answers state → GiveScopes answers
