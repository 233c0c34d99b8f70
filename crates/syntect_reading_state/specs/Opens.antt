-- What references to contexts do to the scopes of a line.
use Rattle.std.specs.Prelude.{ℕ, List, [], ◌∷◌, ◌++◌, map, Bool, true, false, Option, is_none}
use Rattle.std.specs.List.{filter_map, flat_map, list_all}
use Rattle.std.specs.Option.{option_and_then, option_to_list}
use Rattle.syntect_reading_state.specs.syntect_scope.declared.stack.ScopeStackOp.{ScopeStackOp}
use Rattle.syntect_reading_state.specs.syntect_scope.declared.stack.ScopeStackOp.TheVariants.{Clear, Restore}
use Rattle.syntect_reading_state.specs.syntect_scope.declared.stack.ClearAmount.{ClearAmount}
use Rattle.syntect_reading_state.specs.syntect_scope.Replay.{pushes}
use Rattle.syntect_grammar.specs.Contexts.{context_at, part_of}
use Rattle.syntect_reading_state.specs.syntect_grammar_contexts.Contexts.{Scopes, target}
use Rattle.syntect_reading_state.specs.syntect_grammar_contexts.declared.context.ContextId.{ContextId}
use Rattle.syntect_reading_state.specs.syntect_grammar_contexts.declared.context.ContextReference.{ContextReference}
use Rattle.syntect_grammar.specs.declared.syntax_set.SyntaxSet.{SyntaxSet}

-- how much a context clears, if it clears
abbrev pub clearing : SyntaxSet → ContextId → Option ClearAmount
clearing set id = option_and_then (λ c. c.clear_scopes) (context_at set id)

-- of the contexts that references stand for: their `meta_scope`s, their `meta_content_scope`s,
-- and both
abbrev pub metas : SyntaxSet → List ContextReference → Scopes
metas set refs = flat_map (part_of (λ c. c.meta_scope) set) (filter_map target refs)

abbrev pub contents : SyntaxSet → List ContextReference → Scopes
contents set refs = flat_map (part_of (λ c. c.meta_content_scope) set) (filter_map target refs)

abbrev pub opens : SyntaxSet → List ContextReference → Scopes
opens set refs =
    flat_map (part_of (λ c. c.meta_scope ++ c.meta_content_scope) set) (filter_map target refs)

abbrev pub has_no_scope : Scopes → Bool
has_no_scope [] = true
has_no_scope (s ∷ ss) = false

-- no context of the list clears
abbrev pub clear_nothing : SyntaxSet → List ContextId → Bool
clear_nothing set ids = list_all (λ id. is_none (clearing set id)) ids

-- clearing by an amount, if there is one, and putting back what was cleared
abbrev pub clears : ℕ → Option ClearAmount → List (ℕ × ScopeStackOp)
clears at amount = map (λ a. (at, Clear a)) (option_to_list amount)

abbrev pub restores : ℕ → Option ClearAmount → List (ℕ × ScopeStackOp)
restores at amount = map (λ a. (at, Restore)) (option_to_list amount)

-- what opens a context below a match, and what opens it to stay
abbrev pub opens_below : ℕ → SyntaxSet → ContextId → List (ℕ × ScopeStackOp)
opens_below at set id =
    clears at (clearing set id) ++ pushes at (part_of (λ c. c.meta_scope) set id)

abbrev pub opens_here : ℕ → SyntaxSet → ContextId → List (ℕ × ScopeStackOp)
opens_here at set id =
    clears at (clearing set id)
    ++ pushes at (part_of (λ c. c.meta_scope ++ c.meta_content_scope) set id)

-- the same of the contexts that references stand for, one after another
abbrev pub all_below : ℕ → SyntaxSet → List ContextReference → List (ℕ × ScopeStackOp)
all_below at set refs = flat_map (opens_below at set) (filter_map target refs)

abbrev pub all_here : ℕ → SyntaxSet → List ContextReference → List (ℕ × ScopeStackOp)
all_here at set refs = flat_map (opens_here at set) (filter_map target refs)
