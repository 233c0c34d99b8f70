-- The operations of a match.
pub use Rattle.syntect_parsing.specs.syntect_reading_state.Opens.{metas, contents, opens, has_no_scope, clear_nothing, clears, restores, opens_below, opens_here, all_below, all_here}
use Rattle.std.specs.Prelude.{ℕ, ◌+◌, ◌-◌, List, [], ◌++◌, length, map, filter, if◌then◌else◌, ◌&&◌, ◌==◌}
use Rattle.std.specs.List.{filter_map, flat_map, range_with_len}
use Rattle.syntect_parsing.specs.syntect_scope.declared.stack.ScopeStackOp.{ScopeStackOp}
use Rattle.syntect_parsing.specs.syntect_scope.declared.stack.ScopeStackOp.TheVariants.{Pop}
use Rattle.syntect_parsing.specs.syntect_scope.Replay.{pushes, pops}
use Rattle.syntect_parsing.specs.syntect_grammar_contexts.Contexts.{target}
use Rattle.syntect_parsing.specs.Visible.{top_clearing, top_part}
use Rattle.syntect_parsing.specs.Scopes.{Scopes, Capture, longer_first}
use Rattle.syntect_parsing.specs.syntect_grammar_contexts.declared.context.ContextReference.{ContextReference}
use Rattle.syntect_parsing.specs.syntect_grammar_contexts.declared.context.MatchOperation.{MatchOperation}
use Rattle.syntect_parsing.specs.syntect_grammar_contexts.declared.context.MatchOperation.TheVariants as op
use Rattle.syntect_parsing.specs.syntect_grammar.declared.syntax_set.SyntaxSet.{SyntaxSet}
use Rattle.syntect_reading_choice.specs.declared.level.Level.{Level}

-- ---- For proofs and private functions alone ----

-- At a place the captures that end there are popped in the order of the list, each by one
-- operation. Then those that begin there are pushed, longer ones first.
abbrev pub captures_at : List Capture → ℕ → List (ℕ × ScopeStackOp)
captures_at cs place =
    map (λ c. (place, Pop (length c.scopes))) (filter (λ c. c.end == place) cs)
    ++ pushes place (flat_map (λ c. c.scopes) (longer_first (filter (λ c. c.start == place) cs)))

-- the same place by place, from the start of a match to its end
abbrev pub capture_operations : ℕ → ℕ → List Capture → List (ℕ × ScopeStackOp)
capture_operations start end cs = flat_map (captures_at cs) (range_with_len start (end - start + 1))

-- how many scopes the top level's context put on the stack
abbrev pub top_count : SyntaxSet → List Level → ℕ
top_count set levels =
    length (top_part (λ c. c.meta_scope) set levels)
    + length (top_part (λ c. c.meta_content_scope) set levels)

-- At a match's start, below its own scopes. A push opens its contexts; a set puts back what the
-- context that it leaves cleared, and pushes the `meta_scope`s of its own, which don't clear yet; a
-- pop takes the content scopes off.
abbrev pub operations_below : ℕ → SyntaxSet → List Level → MatchOperation → List (ℕ × ScopeStackOp)
operations_below at set levels (op.Push refs) = all_below at set refs
operations_below at set levels (op.Set refs) =
    restores at (top_clearing set levels) ++ pushes at (metas set refs)
operations_below at set levels op.Pop =
    pops at (length (top_part (λ c. c.meta_content_scope) set levels))
operations_below at set levels op.None = []

-- After a push, at the match's end: where the new contexts have content scopes, these come between
-- their `meta_scope`s, so that they are popped and pushed anew.
abbrev pub operations_pushed : ℕ → SyntaxSet → List ContextReference → List (ℕ × ScopeStackOp)
operations_pushed at set refs =
    if has_no_scope (contents set refs) then []
    else pops at (length (metas set refs)) ++ pushes at (opens set refs)

-- After a set: the same, with the scopes of the context that it leaves, where that one has some or
-- a new one clears.
abbrev pub operations_set : ℕ → SyntaxSet → ℕ → List ContextReference → List (ℕ × ScopeStackOp)
operations_set at set left refs =
    if has_no_scope (contents set refs) && ((left == 0) && clear_nothing set (filter_map target refs))
    then []
    else pops at (length (metas set refs) + left) ++ all_here at set refs

-- At a match's end, once its own scopes are popped.
abbrev pub operations_behind : ℕ → SyntaxSet → List Level → MatchOperation → List (ℕ × ScopeStackOp)
operations_behind at set levels (op.Push refs) = operations_pushed at set refs
operations_behind at set levels (op.Set refs) = operations_set at set (top_count set levels) refs
operations_behind at set levels op.Pop =
    pops at (length (top_part (λ c. c.meta_scope) set levels))
    ++ restores at (top_clearing set levels)
operations_behind at set levels op.None = []

-- the scopes of a match stand on top of what is opened at its start,
-- and its captures on top of them
abbrev pub operations : ℕ → ℕ → Scopes → List Capture → List (ℕ × ScopeStackOp)
    → List (ℕ × ScopeStackOp) → List (ℕ × ScopeStackOp)
operations start end scope captures below behind =
    below ++ (pushes start scope ++
    (capture_operations start end captures ++ (pops end (length scope) ++ behind)))

-- all that a match does
abbrev pub operations_of : ℕ → ℕ → Scopes → List Capture → SyntaxSet → List Level → MatchOperation
    → List (ℕ × ScopeStackOp)
operations_of start end scope captures set levels o =
    operations start end scope captures (operations_below start set levels o)
    (operations_behind end set levels o)
