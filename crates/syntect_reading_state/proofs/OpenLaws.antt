-- Operations that are made one by one.
use Rattle.std.proofs.Common.{◌≡◌, ℕ, suc, ◌&&◌, List, [], ◌∷◌, ◌++◌, length, Option, Some, None, refl, ap, ◌∙◌, append_assoc, length-append, ◌+◌, ◌≤◌, is_none, arith}
use Rattle.std.specs.Option.{option_map_or, option_and_then}
use Rattle.std.specs.List.{filter_map, flat_map, cons_option}
use Rattle.syntect_reading_state.specs.syntect_scope.declared.stack.ScopeStackOp.{ScopeStackOp}
use Rattle.syntect_reading_state.specs.syntect_scope.declared.stack.ScopeStackOp.TheVariants.{Push}
use Rattle.syntect_reading_state.specs.syntect_scope.Replay.{pushes}
use Rattle.syntect_grammar.specs.Contexts.{part_of, context_at}
use Rattle.syntect_reading_state.specs.syntect_grammar_contexts.Contexts.{Scopes, target}
use Rattle.syntect_reading_state.specs.Opens.{clearing, metas, contents, opens, has_no_scope, clear_nothing, clears, opens_below, opens_here, all_below, all_here}
use Rattle.syntect_reading_state.specs.syntect_grammar_contexts.declared.context.ContextId.{ContextId}
use Rattle.syntect_reading_state.specs.syntect_grammar_contexts.declared.context.ContextReference.{ContextReference}
use Rattle.syntect_reading_state.specs.syntect_grammar_contexts.declared.context.Context.{Context}
use Rattle.syntect_grammar.specs.declared.syntax_set.SyntaxSet.{SyntaxSet}

pub pushes_append : (at : ℕ) (xs ys : Scopes) → pushes at (xs ++ ys) ≡ pushes at xs ++ pushes at ys
pushes_append at [] ys = refl
pushes_append at (x ∷ xs) ys = ap (λ (l : List (ℕ × ScopeStackOp)). (at, Push x) ∷ l) (pushes_append at xs ys)

-- the part of the context that a reference stands for, and those of the rest
pub part_step : (part : Context → Scopes) (set : SyntaxSet) (r : ContextReference) (rs : List ContextReference)
    → flat_map (part_of part set) (filter_map target (r ∷ rs)) ≡ option_map_or part (option_and_then (context_at set) (target r)) [] ++ flat_map (part_of part set) (filter_map target rs)
part_step part set r rs = by (target r)
  where
    by : (o : Option ContextId) → flat_map (part_of part set) (cons_option o (filter_map target rs)) ≡ option_map_or part (option_and_then (context_at set) o) [] ++ flat_map (part_of part set) (filter_map target rs)
    by None = refl
    by (Some id) = refl

pub pushes_step : (at : ℕ) (set : SyntaxSet) (r : ContextReference) (rs : List ContextReference)
    → pushes at (metas set (r ∷ rs)) ≡ pushes at (option_map_or (λ c. c.meta_scope) (option_and_then (context_at set) (target r)) []) ++ pushes at (metas set rs)
pushes_step at set r rs = ap (pushes at) (part_step (λ c. c.meta_scope) set r rs) ∙ pushes_append at _ _

pub pushes_both : (at : ℕ) (set : SyntaxSet) (r : ContextReference) (rs : List ContextReference)
    → pushes at (opens set (r ∷ rs)) ≡ pushes at (option_map_or (λ c. c.meta_scope) (option_and_then (context_at set) (target r)) [])
    ++ (pushes at (option_map_or (λ c. c.meta_content_scope) (option_and_then (context_at set) (target r)) []) ++ pushes at (opens set rs))
pushes_both at set r rs =
    ap (pushes at) (part_step (λ c. c.meta_scope ++ c.meta_content_scope) set r rs) ∙ pushes_append at _ _ ∙ by (option_and_then (context_at set) (target r))
  where
    by : (o : Option Context) → pushes at (option_map_or (λ (c : Context). c.meta_scope ++ c.meta_content_scope) o []) ++ pushes at (opens set rs)
        ≡ pushes at (option_map_or (λ (c : Context). c.meta_scope) o []) ++ (pushes at (option_map_or (λ (c : Context). c.meta_content_scope) o []) ++ pushes at (opens set rs))
    by None = refl
    by (Some c) = ap (λ (l : List (ℕ × ScopeStackOp)). l ++ pushes at (opens set rs)) (pushes_append at c.meta_scope c.meta_content_scope) ∙ append_assoc (pushes at c.meta_scope) (pushes at c.meta_content_scope) (pushes at (opens set rs))

none_append : (xs ys : Scopes) → has_no_scope (xs ++ ys) ≡ (has_no_scope xs && has_no_scope ys)
none_append [] ys = refl
none_append (x ∷ xs) ys = refl

pub none_step : (set : SyntaxSet) (r : ContextReference) (rs : List ContextReference)
    → has_no_scope (contents set (r ∷ rs)) ≡ (has_no_scope (option_map_or (λ c. c.meta_content_scope) (option_and_then (context_at set) (target r)) []) && has_no_scope (contents set rs))
none_step set r rs = ap has_no_scope (part_step (λ c. c.meta_content_scope) set r rs) ∙ none_append _ _

pub pushes_many : (at : ℕ) (xs : Scopes) → length (pushes at xs) ≡ length xs
pushes_many at [] = refl
pushes_many at (x ∷ xs) = ap suc (pushes_many at xs)

-- how one reference's context is opened, and then the others
each_step : (f : ContextId → List (ℕ × ScopeStackOp)) (r : ContextReference) (rs : List ContextReference)
    → flat_map f (filter_map target (r ∷ rs)) ≡ option_map_or f (target r) [] ++ flat_map f (filter_map target rs)
each_step f r rs = by (target r)
  where
    by : (o : Option ContextId) → flat_map f (cons_option o (filter_map target rs)) ≡ option_map_or f o [] ++ flat_map f (filter_map target rs)
    by None = refl
    by (Some id) = refl

pub below_step : (at : ℕ) (set : SyntaxSet) (r : ContextReference) (rs : List ContextReference)
    → all_below at set (r ∷ rs) ≡ (clears at (option_and_then (λ c. c.clear_scopes) (option_and_then (context_at set) (target r)))
    ++ pushes at (option_map_or (λ c. c.meta_scope) (option_and_then (context_at set) (target r)) [])) ++ all_below at set rs
below_step at set r rs = each_step (opens_below at set) r rs ∙ ap (λ (l : List (ℕ × ScopeStackOp)). l ++ all_below at set rs) (by (target r))
  where
    by : (o : Option ContextId) → option_map_or (opens_below at set) o [] ≡ clears at (option_and_then (λ c. c.clear_scopes) (option_and_then (context_at set) o)) ++ pushes at (option_map_or (λ c. c.meta_scope) (option_and_then (context_at set) o) [])
    by None = refl
    by (Some id) = refl

pub here_step : (at : ℕ) (set : SyntaxSet) (r : ContextReference) (rs : List ContextReference)
    → all_here at set (r ∷ rs) ≡ (clears at (option_and_then (λ c. c.clear_scopes) (option_and_then (context_at set) (target r)))
    ++ (pushes at (option_map_or (λ c. c.meta_scope) (option_and_then (context_at set) (target r)) [])
    ++ pushes at (option_map_or (λ c. c.meta_content_scope) (option_and_then (context_at set) (target r)) []))) ++ all_here at set rs
here_step at set r rs = each_step (opens_here at set) r rs ∙ ap (λ (l : List (ℕ × ScopeStackOp)). l ++ all_here at set rs) (by (target r))
  where
    one : (o : Option Context) → pushes at (option_map_or (λ (c : Context). c.meta_scope ++ c.meta_content_scope) o []) ≡ pushes at (option_map_or (λ (c : Context). c.meta_scope) o []) ++ pushes at (option_map_or (λ (c : Context). c.meta_content_scope) o [])
    one None = refl
    one (Some c) = pushes_append at c.meta_scope c.meta_content_scope

    by : (o : Option ContextId) → option_map_or (opens_here at set) o [] ≡ clears at (option_and_then (λ c. c.clear_scopes) (option_and_then (context_at set) o))
        ++ (pushes at (option_map_or (λ c. c.meta_scope) (option_and_then (context_at set) o) []) ++ pushes at (option_map_or (λ c. c.meta_content_scope) (option_and_then (context_at set) o) []))
    by None = refl
    by (Some id) = ap (λ (l : List (ℕ × ScopeStackOp)). clears at (option_and_then (λ c. c.clear_scopes) (context_at set id)) ++ l) (one (context_at set id))

pub count_step : (set : SyntaxSet) (r : ContextReference) (rs : List ContextReference)
    → length (metas set (r ∷ rs)) ≡ length (option_map_or (λ c. c.meta_scope) (option_and_then (context_at set) (target r)) []) + length (metas set rs)
count_step set r rs = ap length (part_step (λ c. c.meta_scope) set r rs) ∙ length-append _ _

pub clear_step : (set : SyntaxSet) (r : ContextReference) (rs : List ContextReference)
    → clear_nothing set (filter_map target (r ∷ rs)) ≡ (is_none (option_and_then (λ id. clearing set id) (target r)) && clear_nothing set (filter_map target rs))
clear_step set r rs = by (target r)
  where
    by : (o : Option ContextId) → clear_nothing set (cons_option o (filter_map target rs)) ≡ (is_none (option_and_then (λ id. clearing set id) o) && clear_nothing set (filter_map target rs))
    by None = refl
    by (Some id) = refl

-- contexts have no more `meta_scope`s than what opens them has operations
pub metas_few : (at : ℕ) (set : SyntaxSet) (ids : List ContextId) → length (flat_map (part_of (λ c. c.meta_scope) set) ids) ≤ length (flat_map (opens_below at set) ids)
metas_few at set [] = omega arith
metas_few at set (id ∷ ids) =
    let m : Scopes = part_of (λ c. c.meta_scope) set id in
    let c : List (ℕ × ScopeStackOp) = clears at (clearing set id) in
    let a : length (m ++ flat_map (part_of (λ c. c.meta_scope) set) ids) ≡ length m + length (flat_map (part_of (λ c. c.meta_scope) set) ids) = length-append m (flat_map (part_of (λ c. c.meta_scope) set) ids) in
    let b : length ((c ++ pushes at m) ++ flat_map (opens_below at set) ids) ≡ length (c ++ pushes at m) + length (flat_map (opens_below at set) ids) = length-append (c ++ pushes at m) (flat_map (opens_below at set) ids) in
    omega (arith, a, b, length-append c (pushes at m), pushes_many at m, metas_few at set ids)
