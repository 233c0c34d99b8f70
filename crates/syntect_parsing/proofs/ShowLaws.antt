-- What the operations of a match show.
use Rattle.std.proofs.Common.{◌≡◌, ℕ, ◌==◌, ◌-◌, ◌+◌, ◌≤◌, Bool, true, false, ◌&&◌, List, [], ◌∷◌, ◌++◌, length, map, replicate, drop, fold, Option, Some, None, is_none, refl, sym, ap, ◌∙◌, arith, append_assoc, length-append, if◌then◌else◌}
use Rattle.std.specs.Option.{option_map_or, option_and_then}
use Rattle.std.specs.List.{filter_map, flat_map, range_with_len}
use Rattle.std.specs.Str.{IsCharBoundary}
use Rattle.std.proofs.lemmas.List.{append-nil}
use Rattle.syntect_parsing.specs.syntect_scope.declared.stack.ScopeStack.{ScopeStack}
use Rattle.syntect_parsing.specs.syntect_scope.declared.stack.ScopeStackOp.{ScopeStackOp}
use Rattle.syntect_parsing.specs.syntect_scope.declared.stack.ClearAmount.{ClearAmount}
use Rattle.syntect_parsing.specs.syntect_scope.Replay.{Replay, InOrder, replay, pushes, pops}
use Rattle.syntect_parsing.specs.syntect_grammar.Contexts.{context_at, part_of}
use Rattle.syntect_parsing.specs.syntect_grammar_contexts.Contexts.{target}
use Rattle.syntect_reading_choice.specs.Chain.{last}
use Rattle.syntect_reading_choice.specs.Engine.{dialect}
use Rattle.syntect_parsing.specs.Turn.{without_last, levels_by}
use Rattle.syntect_reading_choice.specs.Turn.{Live}
use Rattle.syntect_parsing.specs.Visible.{top_clearing, top_part, left_by, opened_on, visible, visible_base}
use Rattle.syntect_parsing.specs.Scopes.{Scopes, Capture, covers, captures, scopes_passed}
use Rattle.syntect_parsing.specs.Operations.{operations, operations_of, operations_below, operations_behind, operations_pushed, operations_set, capture_operations, metas, contents, opens, has_no_scope, clear_nothing, opens_here, restores}
use Rattle.syntect_parsing.specs.Orderly.{is_orderly}
use Rattle.syntect_parsing.specs.Stacks.{IsAt, onto, after_clearing, enter, stack_of}
use Rattle.syntect_reading_choice.proofs.ListLaws.{tested_true}
use Rattle.syntect_parsing.proofs.ReplayLaws.{replay-append, at_onto, at_pops, at_move}
use Rattle.syntect_parsing.proofs.OrderLaws.{order-append, order-pushes, order-pops, order-below, order-behind}
use Rattle.syntect_parsing.proofs.CaptureLaws.{AreLaidOut, EndOnBoundaries, over, captures_shown, captures_in_order}
use Rattle.syntect_parsing.proofs.LeadLaws.{LeadsTo, leads_nothing, leads_then, leads_pushes, leads_pops, leads_restores, leads_below, leads_here}
use Rattle.syntect_parsing.proofs.StackLaws.{onto_none, onto_both, cleared_scopes, stack_has_visible, enter_below, below_visible, stack_split, stack_more, enter_clear, enter_orderly, below_orderly, first_clearing}
use Rattle.syntect_parsing.specs.syntect_grammar_contexts.declared.context.ContextId.{ContextId}
use Rattle.syntect_parsing.specs.syntect_grammar_contexts.declared.context.ContextReference.{ContextReference}
use Rattle.syntect_parsing.specs.syntect_grammar_contexts.declared.context.Context.{Context}
use Rattle.syntect_parsing.specs.syntect_grammar_contexts.declared.context.MatchOperation.{MatchOperation}
use Rattle.syntect_parsing.specs.syntect_grammar_contexts.declared.context.MatchOperation.TheVariants as op
use Rattle.syntect_parsing.specs.syntect_grammar.declared.syntax_set.SyntaxSet.{SyntaxSet}
use Rattle.syntect_reading_choice.specs.declared.level.Level.{Level}

-- From one stack the operations at the start lead to a second, on which the match's scopes and
-- those of its captures stand, and the operations at the end lead from that one to a third.
pub match_shows : (cs : List Capture) (r : Replay) (place s e : ℕ) (b : List Scopes) (t u v : ScopeStack) (S : Scopes) (below behind : List (ℕ × ScopeStackOp)) → AreLaidOut s e cs → place ≤ s → s ≤ e
    → LeadsTo s below t u → LeadsTo e behind u v → IsAt r place b t
    → IsAt (replay (operations s e S cs below behind) r) e (b ++ (replicate (s - place) t.scopes ++ map (λ k. (u.scopes ++ S) ++ over (covers k) cs) (range_with_len s (e - s)))) v
match_shows cs r place s e b t u v S below behind laid l m start end h =
    let h1 = at_move t.clear_stack r place s b t.scopes l h in
    let h2 = start r _ h1 in
    let h3 = at_onto _ s _ u S h2 in
    let h4 = captures_shown s e cs laid u.clear_stack _ _ (u.scopes ++ S) m h3 in
    let h5 = at_pops u.clear_stack _ e (length S) _ u.scopes S refl h4 in
    let h6 = end _ _ h5 in
    rw (
      replay-append below (pushes s S ++ (capture_operations s e cs ++ (pops e (length S) ++ behind))) r,
      replay-append (pushes s S) (capture_operations s e cs ++ (pops e (length S) ++ behind)) (replay below r),
      replay-append (capture_operations s e cs) (pops e (length S) ++ behind) (replay (pushes s S) (replay below r)),
      replay-append (pops e (length S)) behind (replay (capture_operations s e cs) (replay (pushes s S) (replay below r))),
      ← append_assoc b (replicate (s - place) t.scopes) (map (λ k. (u.scopes ++ S) ++ over (covers k) cs) (range_with_len s (e - s))),
    ) h6

pub order-match : (text : List ℕ) (place s e : ℕ) (scope : Scopes) (cs : List Capture) (set : SyntaxSet) (levels : List Level) (o : MatchOperation) → place ≤ s → s ≤ e → IsCharBoundary text s → IsCharBoundary text e → EndOnBoundaries text cs
    → InOrder text place (operations_of s e scope cs set levels o) e
order-match text place s e scope cs set levels o l m bs be on =
    order-append text place s e [] (operations_of s e scope cs set levels o) l
    (order-append text s s e (operations_below s set levels o) _ (order-below text s set levels o bs)
    (order-append text s s e (pushes s scope) _ (order-pushes text s scope bs)
    (order-append text s e e (capture_operations s e cs) _ (captures_in_order text s e cs on m)
    (order-append text e e e (pops e (length scope)) (operations_behind e set levels o) (order-pops text e (length scope) be) (order-behind text e set levels o be)))))

-- ---- what contexts open ----

no_more : (xs ys : Scopes) → has_no_scope (xs ++ ys) ≡ true → (xs ≡ []) × (has_no_scope ys ≡ true)
no_more [] ys e = (refl, e)
no_more (x ∷ xs) ys e = cc

-- contexts without content scopes have their `meta_scope`s alone
pub bare_ids : (set : SyntaxSet) (ids : List ContextId) → has_no_scope (flat_map (part_of (λ c. c.meta_content_scope) set) ids) ≡ true
    → flat_map (part_of (λ c. c.meta_scope ++ c.meta_content_scope) set) ids ≡ flat_map (part_of (λ c. c.meta_scope) set) ids
bare_ids set [] e = refl
bare_ids set (id ∷ ids) e =
    let k = no_more (part_of (λ c. c.meta_content_scope) set id) (flat_map (part_of (λ c. c.meta_content_scope) set) ids) e in
    by (context_at set id) k.0 (bare_ids set ids k.1)
  where
    by : (o : Option Context) → option_map_or (λ (c : Context). c.meta_content_scope) o [] ≡ []
        → flat_map (part_of (λ c. c.meta_scope ++ c.meta_content_scope) set) ids ≡ flat_map (part_of (λ c. c.meta_scope) set) ids
        → option_map_or (λ (c : Context). c.meta_scope ++ c.meta_content_scope) o [] ++ flat_map (part_of (λ c. c.meta_scope ++ c.meta_content_scope) set) ids
        ≡ option_map_or (λ (c : Context). c.meta_scope) o [] ++ flat_map (part_of (λ c. c.meta_scope) set) ids
    by None k f = f
    by (Some c) k f = rw (k, append-nil c.meta_scope) (ap (λ (l : Scopes). c.meta_scope ++ l) f)

none_left : (xs ys : Scopes) → (length xs + length ys == 0) ≡ true → xs ++ ys ≡ []
none_left [] [] e = refl
none_left [] (y ∷ ys) e = let k : 0 + length (y ∷ ys) ≡ 0 = tested_true _ _ e in absurd (omega arith)
none_left (x ∷ xs) ys e = let k : length (x ∷ xs) + length ys ≡ 0 = tested_true _ _ e in absurd (omega arith)

both_true : (x y : Bool) → (x && y) ≡ true → (x ≡ true) × (y ≡ true)
both_true true y e = (refl, e)
both_true false y e = cc

none_clears : (a : Option ClearAmount) → is_none a ≡ true → a ≡ None
none_clears None e = refl
none_clears (Some a) e = cc

-- ---- a push ----

push_behind : (set : SyntaxSet) (at : ℕ) (t : ScopeStack) (refs : List ContextReference) → clear_nothing set (drop 1 (filter_map target refs)) ≡ true
    → LeadsTo at (operations_pushed at set refs) (fold (enter_below set) t (filter_map target refs)) (fold (enter set) t (filter_map target refs))
push_behind set at t refs o =
    let low : ScopeStack = after_clearing (first_clearing set (filter_map target refs)) t in
    rw (below_orderly set t (filter_map target refs) o, enter_orderly set t (filter_map target refs) o) (by low (has_no_scope (contents set refs)) refl)
  where
    by : (low : ScopeStack) (c : Bool) → has_no_scope (contents set refs) ≡ c
        → LeadsTo at (if c then [] else pops at (length (metas set refs)) ++ pushes at (opens set refs)) (onto low (metas set refs)) (onto low (opens set refs))
    by low true f = rw (bare_ids set (filter_map target refs) f) (leads_nothing at (onto low (metas set refs)))
    by low false f =
        leads_then at (pops at (length (metas set refs))) (pushes at (opens set refs)) (onto low (metas set refs)) low (onto low (opens set refs))
        (leads_pops at (length (metas set refs)) low (metas set refs) refl) (leads_pushes at low (opens set refs))

-- ---- a set ----

set_behind : (set : SyntaxSet) (at : ℕ) (low : ScopeStack) (M C : Scopes) (refs : List ContextReference)
    → LeadsTo at (operations_set at set (length M + length C) refs) (onto (onto low (M ++ C)) (metas set refs)) (fold (enter set) low (filter_map target refs))
set_behind set at low M C refs = by (has_no_scope (contents set refs)) (length M + length C == 0) (clear_nothing set (filter_map target refs)) refl refl refl
  where
    many : length (metas set refs) + (length M + length C) ≡ length ((M ++ C) ++ metas set refs)
    many = omega (arith, length-append (M ++ C) (metas set refs), length-append M C)

    whole : LeadsTo at (pops at (length (metas set refs) + (length M + length C)) ++ flat_map (opens_here at set) (filter_map target refs)) (onto (onto low (M ++ C)) (metas set refs)) (fold (enter set) low (filter_map target refs))
    whole =
        rw (onto_both low (M ++ C) (metas set refs)) (
        leads_then at (pops at (length (metas set refs) + (length M + length C))) (flat_map (opens_here at set) (filter_map target refs)) (onto low ((M ++ C) ++ metas set refs)) low (fold (enter set) low (filter_map target refs))
        (leads_pops at (length (metas set refs) + (length M + length C)) low ((M ++ C) ++ metas set refs) (sym many)) (leads_here at set low (filter_map target refs)))

    by : (x y z : Bool) → has_no_scope (contents set refs) ≡ x → (length M + length C == 0) ≡ y → clear_nothing set (filter_map target refs) ≡ z
        → LeadsTo at (if x && (y && z) then [] else pops at (length (metas set refs) + (length M + length C)) ++ flat_map (opens_here at set) (filter_map target refs))
        (onto (onto low (M ++ C)) (metas set refs)) (fold (enter set) low (filter_map target refs))
    by true true true f g k =
        let same : onto (onto low (M ++ C)) (metas set refs) ≡ fold (enter set) low (filter_map target refs)
        = ap (λ (l : Scopes). onto (onto low l) (metas set refs)) (none_left M C g) ∙ ap (λ (x : ScopeStack). onto x (metas set refs)) (onto_none low)
        ∙ ap (onto low) (sym (bare_ids set (filter_map target refs) f)) ∙ sym (enter_clear set low (filter_map target refs) k) in
        rw same (leads_nothing at (fold (enter set) low (filter_map target refs)))
    by true true false f g k = whole
    by true false z f g k = whole
    by false y z f g k = whole

-- ---- a match of any kind ----

-- where a match stands, its operations lead from the stack of the levels over one that has the base
-- to that of the next levels
record Leads (set : SyntaxSet) (line : List ℕ) (m : Live) (s e : ℕ) (levels : List Level) (o : MatchOperation) : Type 0 where
  between : ScopeStack
  has : between.scopes ≡ visible_base set levels o
  start : LeadsTo s (operations_below s set levels o) (stack_of set levels) between
  end : LeadsTo e (operations_behind e set levels o) between (stack_of set (levels_by set line levels m o))

module _ (set : SyntaxSet) (line : List ℕ) (m : Live) (s e : ℕ) (levels : List Level) where
  push_leads : (refs : List ContextReference) → is_orderly set levels (op.Push refs) ≡ true → Leads set line m s e levels (op.Push refs)
  push_leads refs o = record {
    between = fold (enter_below set) (stack_of set levels) (filter_map target refs);
    has = below_visible set (stack_of set levels) (filter_map target refs) ∙ ap (λ (l : Scopes). fold (opened_on set) l (filter_map target refs)) (stack_has_visible set levels);
    start = leads_below s set (stack_of set levels) (filter_map target refs);
    end = rw (stack_more set (record { region = m.groups; line = line }) [] (option_and_then target m.pattern.with_prototype) levels (filter_map target refs)) (push_behind set e (stack_of set levels) refs o);
  }

  set_leads : (refs : List ContextReference) → is_orderly set levels (op.Set refs) ≡ true → Leads set line m s e levels (op.Set refs)
  set_leads refs o =
      let k : top_clearing set levels ≡ None = none_clears (top_clearing set levels) (both_true (is_none (top_clearing set levels)) _ o).0 in
      let low : ScopeStack = stack_of set (without_last levels) in
      let M : Scopes = top_part (λ c. c.meta_scope) set levels in
      let C : Scopes = top_part (λ c. c.meta_content_scope) set levels in
      let split : stack_of set levels ≡ onto low (M ++ C) = stack_split set levels ∙ ap (λ (a : Option ClearAmount). onto (after_clearing a low) (M ++ C)) k in
      record {
        between = onto (stack_of set levels) (metas set refs);
        has = ap (λ (l : Scopes). l ++ metas set refs) (stack_has_visible set levels);
        start = rw k (leads_pushes s (stack_of set levels) (metas set refs));
        end =
            rw (split, stack_more set (record { region = m.groups; line = line }) (option_map_or (λ l. l.prototypes) (last levels) []) (option_and_then target m.pattern.with_prototype) (without_last levels) (filter_map target refs))
            (set_behind set e low M C refs);
      }

  pop_leads : Leads set line m s e levels op.Pop
  pop_leads =
      let low : ScopeStack = stack_of set (without_last levels) in
      let a : Option ClearAmount = top_clearing set levels in
      let M : Scopes = top_part (λ c. c.meta_scope) set levels in
      let C : Scopes = top_part (λ c. c.meta_content_scope) set levels in
      let split : stack_of set levels ≡ onto (onto (after_clearing a low) M) C = stack_split set levels ∙ sym (onto_both (after_clearing a low) M C) in
      record {
        between = onto (after_clearing a low) M;
        has = ap (λ (l : Scopes). l ++ M) (cleared_scopes a low ∙ ap (left_by a) (stack_has_visible set (without_last levels)));
        start = rw split (leads_pops s (length C) (onto (after_clearing a low) M) C refl);
        end = leads_then e (pops e (length M)) (restores e a) (onto (after_clearing a low) M) (after_clearing a low) low (leads_pops e (length M) (after_clearing a low) M refl) (leads_restores e low a);
      }

  any_leads : (o : MatchOperation) → is_orderly set levels o ≡ true → Leads set line m s e levels o
  any_leads (op.Push refs) o = push_leads refs o
  any_leads (op.Set refs) o = set_leads refs o
  any_leads op.Pop o = pop_leads
  any_leads op.None o = record { between = stack_of set levels; has = stack_has_visible set levels; start = leads_nothing s (stack_of set levels); end = leads_nothing e (stack_of set levels) }

-- bytes that are passed have the visible scopes
pub moves_on : (set : SyntaxSet) (levels : List Level) (r : Replay) (i j : ℕ) (b : List Scopes) → i ≤ j → IsAt r i b (stack_of set levels) → IsAt r j (b ++ replicate (j - i) (visible set levels)) (stack_of set levels)
moves_on set levels r i j b l h = rw (← stack_has_visible set levels) (at_move (stack_of set levels).clear_stack r i j b (stack_of set levels).scopes l h)

-- an orderly match's operations show the scopes of the bytes up to its end, and leave the stack of
-- the levels after it
pub take_shows : (set : SyntaxSet) (line : List ℕ) (levels : List Level) (place : ℕ) (m : Live) (r : Replay) (b : List Scopes) → AreLaidOut m.start m.end (captures dialect m) → place ≤ m.start → m.start ≤ m.end
    → is_orderly set levels m.pattern.operation ≡ true → IsAt r place b (stack_of set levels)
    → IsAt (replay (operations_of m.start m.end m.pattern.scope (captures dialect m) set levels m.pattern.operation) r) m.end (b ++ scopes_passed dialect set levels place m) (stack_of set (levels_by set line levels m m.pattern.operation))
take_shows set line levels place m r b laid l n o h =
    let k = any_leads set line m m.start m.end levels m.pattern.operation o in
    rw (stack_has_visible set levels, k.has) at
    (match_shows (captures dialect m) r place m.start m.end b (stack_of set levels) k.between (stack_of set (levels_by set line levels m m.pattern.operation)) m.pattern.scope
    (operations_below m.start set levels m.pattern.operation) (operations_behind m.end set levels m.pattern.operation) laid l n k.start k.end h)
