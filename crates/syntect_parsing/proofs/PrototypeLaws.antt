-- How many patterns the turns of a line look at.
use Rattle.std.proofs.Common.{◌≡◌, ℕ, zero, suc, ◌+◌, ◌-◌, ◌*◌, ◌≤◌, Bool, true, false, List, [], ◌∷◌, ◌++◌, length, drop, take, Option, Some, None, slice_get, sym, subst, arith, length-append, refl, nat_le}
use Rattle.std.specs.List.{filter_map, flat_map}
use Rattle.std.specs.Option.{option_and_then, option_map_or, option_to_list}
use Rattle.std.proofs.lemmas.Bool.Decides.{nat_tests}
use Rattle.std.proofs.lemmas.List.{length-map}
use Rattle.syntect_parsing.specs.syntect_regex.Bounds.{search_bound}
use Rattle.syntect_parsing.specs.syntect_grammar_contexts.Contexts.{target}
use Rattle.syntect_parsing.specs.syntect_grammar_contexts.Substitution.{Opening}
use Rattle.syntect_parsing.specs.syntect_grammar.Contexts.{context_at, contexts_of}
use Rattle.syntect_parsing.specs.syntect_grammar.Patterns.{entries, patterns_of}
use Rattle.syntect_reading_choice.specs.Chain.{Member, chain, in_sight, last, members, prototypes_in, chain_at}
use Rattle.syntect_reading_choice.specs.Engine.{dialect}
use Rattle.syntect_reading_choice.specs.Steps.{turn_steps, turn_work, ArePutWithin, AreWithin, IsWithin, putting}
use Rattle.syntect_reading_choice.specs.Turn.{Live, Choice, Take, Skip, End, live, missing, refusal, searched_text, winner}
use Rattle.syntect_reading_choice.proofs.Finds.{FindsInOrder}
use Rattle.syntect_reading_choice.proofs.StepLaws.{more_room}
use Rattle.syntect_parsing.specs.Bound.{most_turns}
use Rattle.syntect_parsing.specs.Laws.{longest}
use Rattle.syntect_parsing.specs.Line.{Step, Goes, Ends, Refused, turn, turn_on, turn_in, step, unless_refused, Reaches, here, further, at_start}
use Rattle.syntect_parsing.specs.Scopes.{scopes_passed}
use Rattle.syntect_parsing.specs.Turn.{levels_by, new_levels, opened, position_after, trimmed, without_last}
use Rattle.syntect_parsing.specs.Work.{AllWithin, HasWalksWithin, IsPlainWithin, TakesMostSteps, TakesSteps, most_patterns, prototypes_of}
use Rattle.syntect_parsing.proofs.ClosedLaws.{OfMember, Own, chain-each, patterns-each}
use Rattle.syntect_parsing.proofs.EachLaws.{Each}
use Rattle.syntect_parsing.proofs.Falls.{Falls, IsReady, left, turn_falls}
use Rattle.syntect_parsing.specs.syntect_grammar_contexts.declared.context.Context.{Context}
use Rattle.syntect_parsing.specs.syntect_grammar_contexts.declared.context.ContextId.{ContextId}
use Rattle.syntect_parsing.specs.syntect_grammar_contexts.declared.context.ContextReference.{ContextReference}
use Rattle.syntect_parsing.specs.syntect_grammar_contexts.declared.context.MatchOperation.{MatchOperation}
use Rattle.syntect_parsing.specs.syntect_grammar_contexts.declared.context.MatchPattern.{MatchPattern}
use Rattle.syntect_parsing.specs.syntect_grammar_contexts.declared.context.Pattern.{Pattern}
use Rattle.syntect_parsing.specs.syntect_grammar_contexts.declared.context.Pattern.TheVariants.{Match, Include}
use Rattle.syntect_parsing.specs.syntect_grammar_contexts.declared.context.MatchOperation.TheVariants as op
use Rattle.syntect_parsing.specs.syntect_grammar.declared.syntax_set.SyntaxSet.{SyntaxSet}
use Rattle.syntect_reading_choice.specs.declared.level.Level.{Level}
use Rattle.syntect_reading_choice.specs.declared.position.Position.{Position}
use Rattle.syntect_parsing.specs.States.{Standing}
use Rattle.syntect_parsing.specs.syntect_grammar_contexts.declared.error.ParsingError.{ParsingError}

-- ---- a turn adds a prototype at most ----

many_append : (xs ys : List Level) → prototypes_of (xs ++ ys) ≡ prototypes_of xs + prototypes_of ys
many_append [] ys = omega arith
many_append (x ∷ xs) ys =
    omega (arith, length-append x.prototypes (flat_map (λ (l : Level). l.prototypes) (xs ++ ys)), length-append x.prototypes (flat_map (λ (l : Level). l.prototypes) xs), many_append xs ys)

abbrev prototypes_at : List Level → ℕ → ℕ
prototypes_at xs n = length (option_map_or (λ (l : Level). l.prototypes) (slice_get xs n) [])

-- those of the first levels, and of the next
front : (xs : List Level) (n : ℕ) → prototypes_of (take n xs) + prototypes_at xs n ≤ prototypes_of xs
front [] zero = omega arith
front [] (suc n) = omega arith
front (x ∷ xs) zero = omega (arith, length-append x.prototypes (flat_map (λ (l : Level). l.prototypes) xs))
front (x ∷ xs) (suc n) =
    omega (arith, length-append x.prototypes (flat_map (λ (l : Level). l.prototypes) (take n xs)), length-append x.prototypes (flat_map (λ (l : Level). l.prototypes) xs), front xs n)

back : (xs : List Level) (n : ℕ) → prototypes_of (drop n xs) ≤ prototypes_of xs
back xs zero = omega arith
back [] (suc n) = omega arith
back (x ∷ xs) (suc n) = omega (arith, length-append x.prototypes (flat_map (λ (l : Level). l.prototypes) xs), back xs n)

one_at_most : {X : Type 0} (o : Option X) → length (option_to_list o) ≤ 1
one_at_most None = omega arith
one_at_most (Some x) = omega arith

new_many : (set : SyntaxSet) (opening : Opening) (kept : List ContextId) (with : Option ContextId) (ids : List ContextId) → prototypes_of (new_levels set opening kept with ids) ≤ length kept + 1
new_many set opening kept with [] = omega arith
new_many set opening kept with (id ∷ []) =
    omega (arith, length-append (kept ++ option_to_list with) [], length-append kept (option_to_list with), one_at_most with)
new_many set opening kept with (id ∷ next ∷ ids) =
    omega (arith, length-append kept (flat_map (λ (l : Level). l.prototypes) (new_levels set opening [] with (next ∷ ids))), new_many set opening [] with (next ∷ ids))

opened_many : (set : SyntaxSet) (line : List ℕ) (m : Live) (kept : List ContextId) (refs : List ContextReference) → prototypes_of (opened set line m kept refs) ≤ length kept + 1
opened_many set line m kept refs = new_many set (record { region = m.groups; line = line }) kept (option_and_then target m.pattern.with_prototype) (filter_map target refs)

levels_many : (set : SyntaxSet) (line : List ℕ) (levels : List Level) (m : Live) (o : MatchOperation) → prototypes_of (levels_by set line levels m o) ≤ prototypes_of levels + 1
levels_many set line levels m (op.Push refs) = omega (arith, many_append levels (opened set line m [] refs), opened_many set line m [] refs)
levels_many set line levels m (op.Set refs) =
    let kept : List ContextId = option_map_or (λ (l : Level). l.prototypes) (last levels) [] in
    omega (arith, many_append (without_last levels) (opened set line m kept refs), opened_many set line m kept refs, front levels (length levels - 1))
levels_many set line levels m op.Pop = omega (arith, front levels (length levels - 1))
levels_many set line levels m op.None = omega arith

abbrev Grows : Position → Step → Type 0
Grows p (Goes bytes q) = prototypes_of q.levels ≤ prototypes_of p.levels + 1
Grows p (Ends bytes s) = Unit {0}
Grows p (Refused e) = Unit {0}

grows_unless : (p : Position) (o : Option ParsingError) (s : Step) → Grows p s → Grows p (unless_refused o s)
grows_unless p None s h = h
grows_unless p (Some e) s h = tt

module _ (set : SyntaxSet) (line : List ℕ) where
  grows_step : (p : Position) (choice : Choice) → Grows p (step dialect set line p choice)
  grows_step p (Take m) =
      grows_unless p (refusal set m.pattern) (Goes (scopes_passed dialect set p.levels p.place m) (position_after set line p m)) (levels_many set line p.levels m m.pattern.operation)
  grows_step p Skip = let k : prototypes_of p.levels ≤ prototypes_of p.levels + 1 = omega arith in k
  grows_step p End = tt

  grows_in : (p : Position) (top : Level) (o : Option Context) → Grows p (turn_in dialect set line p top o)
  grows_in p top None = tt
  grows_in p top (Some c) =
      let ms : List Live = live dialect line p (chain set p top c) in
      grows_unless p (missing set (prototypes_in p c)) (step dialect set line p (winner line p ms)) (grows_step p (winner line p ms))

  grows_on : (p : Position) (o : Option Level) → Grows p (turn_on dialect set line p o)
  grows_on p None = tt
  grows_on p (Some top) = grows_in p top (context_at set top.context)

  grows_turn : (p : Position) → Grows p (turn dialect set line p)
  unfolding turn
  grows_turn p = grows_on (trimmed p) (last p.levels)

  -- so there are never more than at the start and turns since
  reached_many : FindsInOrder dialect line → (p q : Position) → IsReady line p → Reaches dialect set line p q
      → prototypes_of q.levels + left (longest (contexts_of set)) line q ≤ prototypes_of p.levels + left (longest (contexts_of set)) line p
  reached_many finds p q ready here = omega arith
  reached_many finds p q ready (further {q = n} {bytes = b} e r) =
      let grown : prototypes_of n.levels ≤ prototypes_of p.levels + 1 = subst (Grows p) e (grows_turn p) in
      let fell : Falls (longest (contexts_of set)) line p (Goes b n) = subst (Falls (longest (contexts_of set)) line p) e (turn_falls dialect line finds set p ready) in
      omega (arith, grown, fell.0, reached_many finds n q fell.1 r)

-- ---- the patterns of a chain ----

module _ (set : SyntaxSet) (each : ℕ) (walks : HasWalksWithin set each) where
  few_members : (from : Bool) (opening : Option Opening) (id : ContextId) → length (members set from opening id) ≤ each
  few_members from opening id =
      omega (arith, walks id, length-map (patterns_of set id) (λ m. let x : Member = record { pattern = m; opening = opening; from_with_prototype = from } in x))

  many_members : (from : Bool) (opening : Option Opening) (ids : List ContextId) → length (flat_map (members set from opening) ids) ≤ length ids * each
  many_members from opening [] = omega arith
  many_members from opening (id ∷ ids) =
      omega (arith, length-append (members set from opening id) (flat_map (members set from opening) ids), few_members from opening id, many_members from opening ids)

  of_levels : (levels : List Level) → length (flat_map (λ (l : Level). flat_map (members set true l.opening) l.prototypes) levels) ≤ prototypes_of levels * each
  of_levels [] = omega arith
  of_levels (l ∷ ls) =
      let rest : List Member = flat_map (λ (k : Level). flat_map (members set true k.opening) k.prototypes) ls in
      let both : prototypes_of (l ∷ ls) ≡ length l.prototypes + prototypes_of ls = length-append l.prototypes (flat_map (λ (k : Level). k.prototypes) ls) in
      let sum : length (flat_map (members set true l.opening) l.prototypes ++ rest) ≤ (length l.prototypes + prototypes_of ls) * each =
      omega (arith, length-append (flat_map (members set true l.opening) l.prototypes) rest, many_members true l.opening l.prototypes, of_levels ls) in
      subst (λ (n : ℕ). length (flat_map (members set true l.opening) l.prototypes ++ rest) ≤ n * each) (sym both) sum

  of_chain : (p : Position) (top : Level) (c : Context) → length (chain set p top c) ≤ (prototypes_of p.levels + 2) * each
  of_chain p top c =
      let a : List Member = flat_map (λ (l : Level). flat_map (members set true l.opening) l.prototypes) (in_sight p) in
      let b : List Member = flat_map (members set false None) (option_to_list c.prototype) in
      let o : List Member = members set false top.opening top.context in
      let one : length b ≤ 1 * each = omega (arith, many_members false None (option_to_list c.prototype), more_room (length (option_to_list c.prototype)) 1 each (one_at_most c.prototype)) in
      let seen : prototypes_of (in_sight p) ≤ prototypes_of p.levels = back p.levels _ in
      let some : length a ≤ prototypes_of p.levels * each = omega (arith, of_levels (in_sight p), more_room (prototypes_of (in_sight p)) (prototypes_of p.levels) each seen) in
      omega (arith, length-append (a ++ b) o, length-append a b, one, some, few_members false top.opening top.context)

  of_context : (p : Position) (top : Level) (o : Option Context) → length (option_map_or (chain set p top) o []) ≤ (prototypes_of p.levels + 2) * each
  of_context p top None = omega arith
  of_context p top (Some c) = of_chain p top c

  of_top : (p : Position) (o : Option Level) → length (option_map_or (λ top. option_map_or (chain set p top) (context_at set top.context) []) o []) ≤ (prototypes_of p.levels + 2) * each
  of_top p None = omega arith
  of_top p (Some top) = of_context p top (context_at set top.context)

  room_for : (r x : ℕ) → (r + 1) * x ≤ (r + 1) * (x + 1)
  room_for r x = omega arith

  left_at_start : (line : List ℕ) (state : Standing) → left (longest (contexts_of set)) line (at_start state) ≤ most_turns set line state
  left_at_start line state =
      let r : ℕ = longest (contexts_of set) in
      let e : length line - 0 ≡ length line = omega arith in
      let m : 1000 + 1001 * length line + 1 ≡ 1001 * (length line + 1) = omega arith in
      let l : (r + 1) * (1000 + 1001 * length line) ≤ (r + 1) * (1001 * (length line + 1)) = rw m at (room_for r (1000 + 1001 * length line)) in
      let k : length state.levels + (r + 1) * (1000 + 1001 * length line) ≤ most_turns set line state = omega (arith, l) in
      rw e k

  -- no turn of a line looks at more
  pub chains_within : (line : List ℕ) → FindsInOrder dialect line → (state : Standing) (p : Position) → Reaches dialect set line (at_start state) p
      → length (chain_at set (trimmed p)) ≤ most_patterns set line state each
  chains_within line finds state p reached =
      let many : prototypes_of p.levels + left (longest (contexts_of set)) line p ≤ prototypes_of state.levels + left (longest (contexts_of set)) line (at_start state) =
      reached_many set line finds (at_start state) p (record { within = omega arith; idle = omega arith }) reached in
      let few : prototypes_of p.levels + 2 ≤ prototypes_of state.levels + most_turns set line state + 2 = omega (arith, many, left_at_start line state) in
      omega (arith, of_top (trimmed p) (last p.levels), more_room (prototypes_of p.levels + 2) (prototypes_of state.levels + most_turns set line state + 2) each few)

-- ---- the searches of a chain ----

own_text : (m : MatchPattern) (o : Option Opening) → m.has_captures ≡ false → searched_text dialect m o ≡ m.regex
own_text m None e = refl
own_text m (Some x) e = rw e refl

tested : (a b : ℕ) → a ≤ b → nat_le a b ≡ true
tested a b l = grind (arith, nat_tests)

plain_put : (m : MatchPattern) (o : Option Opening) → m.has_captures ≡ false → putting m o ≡ 0
plain_put m None e = refl
plain_put m (Some x) e = rw e refl

module _ (set : SyntaxSet) (long most : ℕ) (all : AllWithin set long most) where
  member_within : (m : Member) → IsPlainWithin long most m.pattern → IsWithin long most m
  member_within m h =
      let own : searched_text dialect m.pattern m.opening ≡ m.pattern.regex = own_text m.pattern m.opening h.plain in
      rw (own, h.linear) (tested (search_bound m.pattern.regex long) most h.few)

  all_within : (ms : List Member) → Each (OfMember (IsPlainWithin long most)) ms → AreWithin long most ms
  all_within [] h = refl
  all_within (m ∷ ms) h = rw (member_within m h.0) (all_within ms h.1)

  own_within : (ps : List Pattern) → ((k : ℕ) (m : MatchPattern) → slice_get ps k ≡ Some (Match m) → IsPlainWithin long most m) → Own (IsPlainWithin long most) ps
  own_within [] h = tt
  own_within (Match m ∷ ps) h = (h 0 m refl, own_within ps (λ k n e. h (suc k) n e))
  own_within (Include r ∷ ps) h = own_within ps (λ k n e. h (suc k) n e)

  chain_within : (p : Position) (top : Level) (c : Context) → AreWithin long most (chain set p top c)
  chain_within p top c =
      all_within (chain set p top c) (chain-each (IsPlainWithin long most) set p top c (λ id. patterns-each (IsPlainWithin long most) set id (λ x. own_within (entries set x) (all x))))

  context_within : (p : Position) (top : Level) (o : Option Context) → AreWithin long most (option_map_or (chain set p top) o [])
  context_within p top None = refl
  context_within p top (Some c) = chain_within p top c

  pub top_within : (p : Position) (o : Option Level) → AreWithin long most (option_map_or (λ top. option_map_or (chain set p top) (context_at set top.context) []) o [])
  top_within p None = refl
  top_within p (Some top) = context_within p top (context_at set top.context)

  -- nothing is put into plain patterns
  all_put : (ms : List Member) → Each (OfMember (IsPlainWithin long most)) ms → ArePutWithin 0 ms
  all_put [] h = refl
  all_put (m ∷ ms) h = rw (plain_put m.pattern m.opening h.0.plain) (all_put ms h.1)

  chain_put : (p : Position) (top : Level) (c : Context) → ArePutWithin 0 (chain set p top c)
  chain_put p top c =
      all_put (chain set p top c) (chain-each (IsPlainWithin long most) set p top c (λ id. patterns-each (IsPlainWithin long most) set id (λ x. own_within (entries set x) (all x))))

  context_put : (p : Position) (top : Level) (o : Option Context) → ArePutWithin 0 (option_map_or (chain set p top) o [])
  context_put p top None = refl
  context_put p top (Some c) = chain_put p top c

  pub top_put : (p : Position) (o : Option Level) → ArePutWithin 0 (option_map_or (λ top. option_map_or (chain set p top) (context_at set top.context) []) o [])
  top_put p None = refl
  top_put p (Some top) = context_put p top (context_at set top.context)

-- ---- all searches of a line ----

by_none : (turns x n : ℕ) → turns * (n * 0 + x) ≤ turns * x
by_none turns x n = omega arith

pub takes_most : (set : SyntaxSet) (line : List ℕ) → FindsInOrder dialect line → (state : Standing) (turns before after : ℕ) → TakesSteps set line state turns before after → turns ≤ most_turns set line state
    → TakesMostSteps set line state before after
takes_most set line finds state turns before after t few each most walks all =
    let x : ℕ = turn_steps (most_patterns set line state each) most (length line) in
    let n : ℕ = most_patterns set line state each in
    let w : after ≤ before + turns * turn_work n most 0 (length line) =
    t n most 0
    (λ p r. (chains_within set each walks line finds state p r, top_within set (length line) most all (trimmed p) (last p.levels), top_put set (length line) most all (trimmed p) (last p.levels))) in
    let h : after ≤ before + turns * x = omega (arith, w, by_none turns x n) in
    omega (arith, h, more_room turns (most_turns set line state) x few)
