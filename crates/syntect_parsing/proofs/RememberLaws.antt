-- The operations of a match apply to stacks that remember a list for each level that clears.
use Rattle.std.proofs.Common.{◌≡◌, ℕ, ◌==◌, ◌-◌, ◌+◌, Bool, true, false, ◌&&◌, List, [], ◌∷◌, ◌++◌, length, Option, Some, None, is_none, refl, sym, ap, ◌∙◌, arith, if◌then◌else◌}
use Rattle.std.specs.Option.{option_map_or, option_and_then, option_to_list}
use Rattle.std.specs.List.{filter_map, flat_map}
use Rattle.syntect_parsing.specs.syntect_scope.declared.stack.ScopeStackOp.{ScopeStackOp}
use Rattle.syntect_parsing.specs.syntect_scope.declared.stack.ClearAmount.{ClearAmount}
use Rattle.syntect_parsing.specs.syntect_scope.Replay.{Replay, AllApply, replay, pushes, pops}
use Rattle.syntect_parsing.specs.syntect_grammar_contexts.Substitution.{Opening}
use Rattle.syntect_parsing.specs.syntect_grammar_contexts.Contexts.{Scopes, target}
use Rattle.syntect_reading_choice.specs.Chain.{last}
use Rattle.syntect_parsing.specs.Turn.{without_last, new_levels, levels_by}
use Rattle.syntect_reading_choice.specs.Turn.{Live}
use Rattle.syntect_parsing.specs.Visible.{clearing, top_clearing, top_part}
use Rattle.syntect_parsing.specs.Scopes.{Capture}
use Rattle.syntect_parsing.specs.Stacks.{Remembers, count_clearing}
use Rattle.syntect_parsing.specs.Operations.{operations, operations_of, operations_below, operations_behind, operations_pushed, operations_set, capture_operations, metas, contents, opens, has_no_scope, clear_nothing, opens_here, restores, top_count}
use Rattle.syntect_parsing.proofs.CountLaws.{Counts, how_many, count_ids, counts_as, counts_nothing, counts_then, counts_pushes, counts_pops, counts_restores, counts_below, counts_here, many_cons}
use Rattle.syntect_parsing.proofs.CaptureLaws.{captures_count}
use Rattle.syntect_parsing.proofs.StackLaws.{split_last}
use Rattle.syntect_parsing.specs.syntect_grammar_contexts.declared.context.ContextId.{ContextId}
use Rattle.syntect_parsing.specs.syntect_grammar_contexts.declared.context.ContextReference.{ContextReference}
use Rattle.syntect_parsing.specs.syntect_grammar_contexts.declared.context.MatchOperation.{MatchOperation}
use Rattle.syntect_parsing.specs.syntect_grammar_contexts.declared.context.MatchOperation.TheVariants as op
use Rattle.syntect_parsing.specs.syntect_grammar.declared.syntax_set.SyntaxSet.{SyntaxSet}
use Rattle.syntect_reading_choice.specs.declared.level.Level.{Level}

match_counts : (a b c s e : ℕ) (S : Scopes) (cs : List Capture) (below behind : List (ℕ × ScopeStackOp)) → Counts a b below → Counts b c behind → Counts a c (operations s e S cs below behind)
match_counts a b c s e S cs below behind f g =
    counts_then a b c below (pushes s S ++ (capture_operations s e cs ++ (pops e (length S) ++ behind))) f
    (counts_then b b c (pushes s S) (capture_operations s e cs ++ (pops e (length S) ++ behind)) (counts_pushes b s S)
    (counts_then b b c (capture_operations s e cs) (pops e (length S) ++ behind) (captures_count b s e cs)
    (counts_then b b c (pops e (length S)) behind (counts_pops b e (length S)) g)))

-- ---- how many levels clear ----

count_append : (set : SyntaxSet) (xs ys : List Level) → count_clearing set (xs ++ ys) ≡ count_clearing set xs + count_clearing set ys
count_append set [] ys = omega arith
count_append set (l ∷ xs) ys =
    omega (arith, many_cons (clearing set l.context) (filter_map (λ (k : Level). clearing set k.context) (xs ++ ys)), many_cons (clearing set l.context) (filter_map (λ (k : Level). clearing set k.context) xs), count_append set xs ys)

count_new : (set : SyntaxSet) (o : Opening) (kept : List ContextId) (w : Option ContextId) (ids : List ContextId) → count_clearing set (new_levels set o kept w ids) ≡ count_ids set ids
count_new set o kept w [] = refl
count_new set o kept w (id ∷ []) = refl
count_new set o kept w (id ∷ next ∷ ids) =
    many_cons (clearing set id) (filter_map (λ (k : Level). clearing set k.context) (new_levels set o [] w (next ∷ ids)))
    ∙ ap (λ (n : ℕ). how_many (clearing set id) + n) (count_new set o [] w (next ∷ ids)) ∙ sym (many_cons (clearing set id) (filter_map (clearing set) (next ∷ ids)))

count_top : (set : SyntaxSet) (o : Option Level) → count_clearing set (option_to_list o) ≡ how_many (option_and_then (λ (l : Level). clearing set l.context) o)
count_top set None = refl
count_top set (Some l) = many_cons (clearing set l.context) [] ∙ (let z : how_many (clearing set l.context) + 0 ≡ how_many (clearing set l.context) = omega arith in z)

count_split : (set : SyntaxSet) (levels : List Level) → count_clearing set levels ≡ how_many (top_clearing set levels) + count_clearing set (without_last levels)
count_split set levels =
    let a : count_clearing set levels ≡ count_clearing set (without_last levels ++ option_to_list (last levels)) = ap (count_clearing set) (split_last levels) in
    omega (arith, a, count_append set (without_last levels) (option_to_list (last levels)), count_top set (last levels))

none_count : (o : Option ClearAmount) → is_none o ≡ true → how_many o ≡ 0
none_count None e = refl
none_count (Some a) e = cc

both_true : (x y : Bool) → (x && y) ≡ true → (x ≡ true) × (y ≡ true)
both_true true y e = (refl, e)
both_true false y e = cc

clear_count : (set : SyntaxSet) (ids : List ContextId) → clear_nothing set ids ≡ true → count_ids set ids ≡ 0
clear_count set [] e = refl
clear_count set (id ∷ ids) e =
    let k = both_true (is_none (clearing set id)) (clear_nothing set ids) e in
    omega (arith, many_cons (clearing set id) (filter_map (clearing set) ids), none_count (clearing set id) k.0, clear_count set ids k.1)

-- ---- each kind of match ----

pushed_counts : (set : SyntaxSet) (a at : ℕ) (refs : List ContextReference) → Counts a a (operations_pushed at set refs)
pushed_counts set a at refs = by (has_no_scope (contents set refs))
  where
    by : (c : Bool) → Counts a a (if c then [] else pops at (length (metas set refs)) ++ pushes at (opens set refs))
    by true = counts_nothing a
    by false = counts_then a a a (pops at (length (metas set refs))) (pushes at (opens set refs)) (counts_pops a at (length (metas set refs))) (counts_pushes a at (opens set refs))

set_counts : (set : SyntaxSet) (a at left : ℕ) (refs : List ContextReference) → Counts a (count_ids set (filter_map target refs) + a) (operations_set at set left refs)
set_counts set a at left refs = by (has_no_scope (contents set refs)) (left == 0) (clear_nothing set (filter_map target refs)) refl
  where
    whole : Counts a (count_ids set (filter_map target refs) + a) (pops at (length (metas set refs) + left) ++ flat_map (opens_here at set) (filter_map target refs))
    whole = counts_then a a (count_ids set (filter_map target refs) + a) (pops at (length (metas set refs) + left)) (flat_map (opens_here at set) (filter_map target refs)) (counts_pops a at (length (metas set refs) + left)) (counts_here a at set (filter_map target refs))

    by : (x y z : Bool) → clear_nothing set (filter_map target refs) ≡ z
        → Counts a (count_ids set (filter_map target refs) + a) (if x && (y && z) then [] else pops at (length (metas set refs) + left) ++ flat_map (opens_here at set) (filter_map target refs))
    by true true true k = counts_as a a a (count_ids set (filter_map target refs) + a) [] refl (omega (arith, clear_count set (filter_map target refs) k)) (counts_nothing a)
    by true true false k = whole
    by true false z k = whole
    by false y z k = whole

module _ (set : SyntaxSet) (line : List ℕ) (m : Live) (s e : ℕ) (S : Scopes) (cs : List Capture) (levels : List Level) where
  any_counts : (o : MatchOperation) → Counts (count_clearing set levels) (count_clearing set (levels_by set line levels m o)) (operations_of s e S cs set levels o)
  any_counts (op.Push refs) =
      let n : ℕ = count_clearing set levels in
      let ids : List ContextId = filter_map target refs in
      let more : List Level = new_levels set (record { region = m.groups; line = line }) [] (option_and_then target m.pattern.with_prototype) ids in
      counts_as n n (count_ids set ids + n) (count_clearing set (levels ++ more)) (operations_of s e S cs set levels (op.Push refs)) refl
      (omega (arith, count_append set levels more, count_new set (record { region = m.groups; line = line }) [] (option_and_then target m.pattern.with_prototype) ids))
      (match_counts n (count_ids set ids + n) (count_ids set ids + n) s e S cs (operations_below s set levels (op.Push refs)) (operations_behind e set levels (op.Push refs)) (counts_below n s set ids) (pushed_counts set (count_ids set ids + n) e refs))
  any_counts (op.Set refs) =
      let ids : List ContextId = filter_map target refs in
      let low : ℕ = count_clearing set (without_last levels) in
      let t : Option ClearAmount = top_clearing set levels in
      let kept : List ContextId = option_map_or (λ l. l.prototypes) (last levels) [] in
      let more : List Level = new_levels set (record { region = m.groups; line = line }) kept (option_and_then target m.pattern.with_prototype) ids in
      counts_as (how_many t + low) (count_clearing set levels) (count_ids set ids + low) (count_clearing set (without_last levels ++ more)) (operations_of s e S cs set levels (op.Set refs)) (sym (count_split set levels))
      (omega (arith, count_append set (without_last levels) more, count_new set (record { region = m.groups; line = line }) kept (option_and_then target m.pattern.with_prototype) ids))
      (match_counts (how_many t + low) low (count_ids set ids + low) s e S cs (operations_below s set levels (op.Set refs)) (operations_behind e set levels (op.Set refs))
      (counts_then (how_many t + low) low low (restores s t) (pushes s (metas set refs)) (counts_restores low s t) (counts_pushes low s (metas set refs))) (set_counts set low e (top_count set levels) refs))
  any_counts op.Pop =
      let low : ℕ = count_clearing set (without_last levels) in
      let t : Option ClearAmount = top_clearing set levels in
      let M : ℕ = length (top_part (λ c. c.meta_scope) set levels) in
      let C : ℕ = length (top_part (λ c. c.meta_content_scope) set levels) in
      counts_as (how_many t + low) (count_clearing set levels) low low (operations_of s e S cs set levels op.Pop) (sym (count_split set levels)) refl
      (match_counts (how_many t + low) (how_many t + low) low s e S cs (pops s C) (pops e M ++ restores e t) (counts_pops (how_many t + low) s C)
      (counts_then (how_many t + low) (how_many t + low) low (pops e M) (restores e t) (counts_pops (how_many t + low) e M) (counts_restores low e t)))
  any_counts op.None = let n : ℕ = count_clearing set levels in match_counts n n n s e S cs [] [] (counts_nothing n) (counts_nothing n)

  -- they apply, and leave a stack that remembers a list for each level that then clears
  pub take_applies : (o : MatchOperation) (r : Replay) → Remembers set levels r.stack
      → AllApply r.stack (operations_of s e S cs set levels o) × Remembers set (levels_by set line levels m o) (replay (operations_of s e S cs set levels o) r).stack
  take_applies o r h =
      let x = any_counts o r (length r.stack.clear_stack - count_clearing set levels) (omega (arith, h)) in
      (x.0, omega (arith, x.1))
