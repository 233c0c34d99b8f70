-- The reading of a class, step by step, without the number that bounds its calls.
use Rattle.std.proofs.Common.{◌≡◌, ℕ, suc, ◌+◌, ◌≤◌, ◌<◌, length, Bool, false, Option, Some, None, ap, ◌∙◌, arith}
use Rattle.std.specs.Prelude.{nat_lt, List, IfSome, option_map}
use Rattle.syntect_pattern.specs.Sets.{Set, negate_if}
use Rattle.syntect_pattern.specs.Reading.{Text, ◌>>=◌, ◌>>◌, begins}
use Rattle.syntect_pattern.specs.Classes.{deepest, Start, Class, all_of, empty_class, start_of, next_in, Step, over, on, step, after_step, first_item, negates, opened, class_rest, class}
use Rattle.syntect_pattern_words.specs.MemberViews.{started}
use Rattle.syntect_pattern_compile.specs.ClassViews.{bracket_as, IsBracketIn, rest_of}
use Rattle.syntect_pattern_table.specs.SetTable.{set_in, SetsGrow}
use Rattle.syntect_pattern_table.specs.declared.sets.Part.{Part}
use Rattle.syntect_pattern_compile.specs.declared.classes.Bracket.{Bracket}
use Rattle.std.proofs.lemmas.Bool.{lt-ltb}
use Rattle.std.proofs.lemmas.Bool.Decides.{nat_tests}
use Rattle.syntect_pattern.proofs.ClassLaws.{bind-same, step_at-same, step_at-le, on_less, opened-same, class_rest-enough, class-le}

abbrev made : Option Set → Set → Class
made sides side = record { sides = sides; side = side }

abbrev class_of : List Part → Option ℕ → ℕ → Class
class_of ps s k = made (option_map (λ j. set_in ps j) s) (set_in ps k)

-- a class that is being read is the same in a table that has grown
pub bracket-grown : (ps qs : List Part) (o : Bracket) → SetsGrow ps qs → IsBracketIn ps o → bracket_as qs o ≡ bracket_as ps o
bracket-grown ps qs o g h = of_sides o.sides h.sides
  where
    of_sides : (s : Option ℕ) → IfSome s (λ k. k < length ps) → class_of qs s o.side ≡ class_of ps s o.side
    of_sides None l = ap (λ (a : Set). made None a) (g.kept o.side h.side)
    of_sides (Some k) l = ap (λ (a : Set). made (Some (set_in qs k)) a) (g.kept o.side h.side) ∙ ap (λ (a : Set). made (Some a) (set_in ps o.side)) (g.kept k l)

module _ (fold : Bool) where
  class-opened : (depth : ℕ) (t : Text) → class fold depth t ≡ opened fold (λ d c u. rest_of fold d c u) depth t
  unfolding class
  class-opened depth t =
      opened-same fold (class_rest fold (suc (length t))) (λ d c u. rest_of fold d c u) depth t
      (λ d c u l. class_rest-enough fold (suc (length t)) (suc (length u)) d c u (omega arith) (omega arith))

  inner-same : (n depth : ℕ) (u : Text) → length u < n → opened fold (class_rest fold n) depth u ≡ class fold depth u
  unfolding class
  inner-same n depth u l =
      opened-same fold (class_rest fold n) (class_rest fold (suc (length u))) depth u
      (λ d c v k. class_rest-enough fold n (suc (length u)) d c v (omega arith) (omega arith))

  steps : (depth : ℕ) (c : Class) (t : Text) → rest_of fold depth c t ≡ (step fold (class fold depth) c t (next_in t) >>= after_step fold (rest_of fold depth) c)
  unfolding class_rest
  steps depth c t =
      ap (λ o. o >>= after_step fold (class_rest fold (length t) depth) c)
      (step_at-same fold (opened fold (class_rest fold (length t)) depth) (class fold depth) c t (λ u l. inner-same (length t) depth u l))
      ∙ bind-same (step fold (class fold depth) c t (next_in t)) _ _ (λ s q.
      on_less fold s (length t) ((step_at-le fold (class fold depth) (class-le fold depth) c t).fits s q)
      (class_rest fold (length t) depth) (rest_of fold depth) c (λ c' u l. class_rest-enough fold (length t) (suc (length u)) depth c' u (omega arith) (omega arith)))

  module _ (depth : ℕ) (c : Class) (t : Text) where
    pub class-goes_on : (c' : Class) (r : Text) → step fold (class fold depth) c t (next_in t) ≡ Some (on c' r) → rest_of fold depth c t ≡ rest_of fold depth c' r
    class-goes_on c' r e = steps depth c t ∙ ap (λ o. o >>= after_step fold (rest_of fold depth) c) e

    pub class-ends : (r : Text) → step fold (class fold depth) c t (next_in t) ≡ Some (over r) → rest_of fold depth c t ≡ Some (all_of c, r)
    class-ends r e = steps depth c t ∙ ap (λ o. o >>= after_step fold (rest_of fold depth) c) e

    pub class-refuses : step fold (class fold depth) c t (next_in t) ≡ None → rest_of fold depth c t ≡ None
    class-refuses e = steps depth c t ∙ ap (λ o. o >>= after_step fold (rest_of fold depth) c) e

    pub class-shorter : (c' : Class) (r : Text) → step fold (class fold depth) c t (next_in t) ≡ Some (on c' r) → length r < length t
    class-shorter c' r e = let l = (step_at-le fold (class fold depth) (class-le fold depth) c t).fits (on c' r) e in omega arith

  -- what comes after the beginning
  after_start : ℕ → Start → Option (Set × Text)
  after_start depth start = first_item fold start.bracket start.rest >>= λ s. negates fold start.caret (after_step fold (rest_of fold (depth + 1)) empty_class s)

  class-is : (depth : ℕ) (t : Text) → class fold depth t ≡ (nat_lt depth deepest >> after_start depth (start_of t))
  unfolding after_start
  class-is depth t = class-opened depth t

  pub class-deep : (depth : ℕ) (t : Text) → deepest ≤ depth → class fold depth t ≡ None
  class-deep depth t h =
      let deep : nat_lt depth deepest ≡ false = grind (arith, nat_tests) in
      class-is depth t ∙ ap (λ (b : Bool). b >> after_start depth (start_of t)) deep

  module _ (depth : ℕ) (t : Text) (fits : depth < deepest) (caret : Bool) (u : Text) (start : start_of t ≡ started caret u) where
    class-begins : class fold depth t ≡ (first_item fold (begins "]" u) u >>= λ s. negates fold caret (after_step fold (rest_of fold (depth + 1)) empty_class s))
    unfolding after_start
    class-begins = class-is depth t ∙ ap (λ (b : Bool). b >> after_start depth (start_of t)) (lt-ltb depth deepest fits) ∙ ap (after_start depth) start

    pub class-no_first : first_item fold (begins "]" u) u ≡ None → class fold depth t ≡ None
    class-no_first e = class-begins ∙ ap (λ (o : Option Step). o >>= λ s. negates fold caret (after_step fold (rest_of fold (depth + 1)) empty_class s)) e

    module _ (c : Class) (r : Text) (first : first_item fold (begins "]" u) u ≡ Some (on c r)) where
      class-first : class fold depth t ≡ negates fold caret (rest_of fold (depth + 1) c r)
      class-first = class-begins ∙ ap (λ (o : Option Step). o >>= λ s. negates fold caret (after_step fold (rest_of fold (depth + 1)) empty_class s)) first

      pub class-no_rest : rest_of fold (depth + 1) c r ≡ None → class fold depth t ≡ None
      class-no_rest e = class-first ∙ ap (negates fold caret) e

      pub class-read : (a : Set) (v : Text) → rest_of fold (depth + 1) c r ≡ Some (a, v) → class fold depth t ≡ Some (negate_if caret a, v)
      class-read a v e = class-first ∙ ap (negates fold caret) e
