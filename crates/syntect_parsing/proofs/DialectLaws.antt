-- What the dialect finds.
use Rattle.std.proofs.Common.{◌≡◌, ◌≢◌, ◌≤◌, ◌<◌, ◌+◌, ◌==◌, ◌||◌, ℕ, zero, suc, Bool, true, false, List, [], ◌∷◌, length, Option, Some, None, refl, sym, ap, ◌∙◌, arith, if◌then◌else◌}
use Rattle.std.specs.Prelude.{chars, slice_get, unwrap_or}
use Rattle.std.specs.List.{list_any}
use Rattle.std.specs.Option.{option_flatten}
use Rattle.std.specs.Str.{IsUtf8}
use Rattle.std.proofs.lemmas.List.Folds.{list_any-append}
use Rattle.syntect_parsing.specs.syntect_pattern.Trees.{Tree, nothing, one_of, anchor, same, seq, alt, repeat, group, atomic, ahead, behind, numbers, has_group, in_look, group_in_look, group_count}
use Rattle.syntect_parsing.specs.syntect_pattern.Sets.{numbers_from}
use Rattle.syntect_parsing.specs.syntect_pattern.Matches.{found}
use Rattle.syntect_parsing.specs.syntect_pattern.Grammar.{NumbersGroups}
use Rattle.syntect_parsing.specs.syntect_pattern.Pattern.{pattern_tree}
use Rattle.syntect_parsing.specs.syntect_pattern.Reading.{◌>>=◌}
use Rattle.syntect_parsing.specs.syntect_pattern.Nesting.{FindsMatches, IsMatch, Span}
use Rattle.syntect_reading_choice.specs.Engine.{dialect}
use Rattle.syntect_parsing.specs.syntect_grammar_contexts.Substitution.{Groups}
use Rattle.syntect_reading_choice.specs.Turn.{group_at}
use Rattle.syntect_parsing.specs.Laws.{LaysGroupsOut, LaysOut}
use Rattle.syntect_reading_choice.proofs.ListLaws.{tested_false}

-- ---- groups outside lookarounds ----

or_true_left : (x y : Bool) → x ≡ true → (x || y) ≡ true
or_true_left true y e = refl
or_true_left false y e = cc

-- the pattern has each group whose number stands among its numbers
has_numbered : (tree : Tree) (n : ℕ) → list_any (λ k. k == n) (numbers tree) ≡ has_group tree n
has_numbered nothing n = refl
has_numbered (one_of set) n = refl
has_numbered (anchor a) n = refl
has_numbered (same number fold) n = refl
has_numbered (seq a b) n = rw (list_any-append (λ k. k == n) (numbers a) (numbers b), has_numbered a n, has_numbered b n) refl
has_numbered (alt a b) n = rw (list_any-append (λ k. k == n) (numbers a) (numbers b), has_numbered a n, has_numbered b n) refl
has_numbered (repeat greedy least most a) n = has_numbered a n
has_numbered (group k a) n = rw (has_numbered a n) refl
has_numbered (atomic a) n = has_numbered a n
has_numbered (ahead negated a) n = has_numbered a n
has_numbered (behind negated a) n = has_numbered a n

among : (low count n : ℕ) → low ≤ n → n < low + count → list_any (λ k. k == n) (numbers_from low count) ≡ true
among low zero n l h = absurd (omega arith)
among low (suc count) n l h = by (low == n) refl (λ m k. among (suc low) count n m k)
  where
    by : (b : Bool) → (low == n) ≡ b → (suc low ≤ n → n < suc low + count → list_any (λ k. k == n) (numbers_from (suc low) count) ≡ true) → (b || list_any (λ k. k == n) (numbers_from (suc low) count)) ≡ true
    by true e rest = refl
    by false e rest = let k : low ≢ n = tested_false low n e in rest (omega (arith, k, l)) (omega (arith, h))

set_below : {X : Type 0} (xs : List X) (n : ℕ) (x : X) → slice_get xs n ≡ Some x → n < length xs
set_below [] n x e = cc
set_below (y ∷ ys) zero x e = omega arith
set_below (y ∷ ys) (suc n) x e = let k = set_below ys n x e in omega (arith, k)

set_of : (groups : Groups) (n : ℕ) (x : Span) (o : Option (Option (ℕ × ℕ))) → slice_get groups n ≡ o → option_flatten o ≡ Some x → slice_get groups n ≡ Some (Some x)
set_of groups n x None e f = cc
set_of groups n x (Some o) e f = e ∙ ap (λ (x : Option (ℕ × ℕ)). Some x) f

has_set : (tree : Tree) → numbers tree ≡ numbers_from 1 (group_count tree) → (groups : Groups) → length groups ≡ suc (group_count tree) → (n : ℕ) (x : Span)
    → slice_get groups (suc n) ≡ Some (Some x) → has_group tree (suc n) ≡ true
has_set tree numbered groups slots n x e =
    let below = set_below groups (suc n) (Some x) e in
    sym (has_numbered tree (suc n)) ∙ ap (list_any (λ k. k == suc n)) numbered ∙ among 1 (group_count tree) (suc n) (omega arith) (omega (arith, below, slots))

outside_look : (b look : Bool) → b ≡ true → unwrap_or (if b then Some look else None) false ≡ false → (if b then Some look else None) ≡ Some false
outside_look true look e f = ap (λ (x : Bool). Some x) f
outside_look false look e f = cc

-- a group that was set and stands in no lookaround
outside : (tree : Tree) → numbers tree ≡ numbers_from 1 (group_count tree) → (groups : Groups) → length groups ≡ suc (group_count tree) → (n : ℕ) (x : Span)
    → slice_get groups n ≡ Some (Some x) → unwrap_or (group_in_look tree n) false ≡ false → group_in_look tree n ≡ Some false
outside tree numbered groups slots zero x e f = refl
outside tree numbered groups slots (suc n) x e f = outside_look (has_group tree (suc n)) (in_look false tree (suc n)) (has_set tree numbered groups slots n x e) f

laid_out : NumbersGroups → (pattern text : List ℕ) (place : ℕ) (groups : Groups) (tree : Tree) → pattern_tree pattern ≡ Some tree → IsMatch text tree place groups → LaysOut dialect pattern text groups
laid_out numbered pattern text place groups tree e m =
    let is_numbered = numbered (chars pattern) tree e in
    let look : (n : ℕ) → dialect.in_lookaround pattern n ≡ false → unwrap_or (group_in_look tree n) false ≡ false = λ n f. rw e at f in
    let set : (n : ℕ) (x : Span) → group_at groups n ≡ Some x → slice_get groups n ≡ Some (Some x) = λ n x g. set_of groups n x (slice_get groups n) refl g in
    record {
      start = m.start;
      end = m.end;
      whole = rw m.whole refl;
      lies = λ n x f g. m.within n x (outside tree is_numbered groups m.slots n x (set n x g) (look n f)) (set n x g);
      nested = λ n k x y f g h i.
          m.nested n k x y (outside tree is_numbered groups m.slots n x (set n x h) (look n f)) (outside tree is_numbered groups m.slots k y (set k y i) (look k g)) (set n x h) (set k y i);
    }

by_pattern : FindsMatches → NumbersGroups → (pattern text : List ℕ) (place : ℕ) (groups : Groups) (o : Option Tree) → pattern_tree pattern ≡ o → IsUtf8 text
    → (o >>= λ tree. found text tree place) ≡ Some groups → LaysOut dialect pattern text groups
by_pattern law numbered pattern text place groups None e u f = cc
by_pattern law numbered pattern text place groups (Some tree) e u f = laid_out numbered pattern text place groups tree e (law text tree place groups u f)

pub lays_groups_out : FindsMatches → NumbersGroups → LaysGroupsOut dialect
lays_groups_out law numbered pattern text place groups u f = by_pattern law numbered pattern text place groups (pattern_tree pattern) refl u f
