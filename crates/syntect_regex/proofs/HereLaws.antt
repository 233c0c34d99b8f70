-- Whether a match begins at a place.
use Rattle.std.proofs.Common.{◌≡◌, ℕ, ◌<◌, ◌≤◌, nat_le, Bool, true, false, List, [], ◌∷◌, length, map, get_or, Some, None, refl, sym, ap, ◌∙◌, arith, inl, inr}
use Rattle.std.specs.Prelude.{slice_get, slice_set, option_map, if◌then◌else◌}
use Rattle.std.proofs.lemmas.Bool.{cases_lt}
use Rattle.std.proofs.lemmas.Bool.Decides.{nat_tests}
use Rattle.syntect_regex.specs.syntect_pattern.Text.{is_boundary}
use Rattle.syntect_regex.specs.syntect_pattern.Trees.{Tree, group}
use Rattle.syntect_regex.specs.syntect_pattern.Matches.{Groups, Member, close, matches, unset, found_at}
use Rattle.syntect_regex.proofs.syntect_pattern_backtrack_proofs.FindLaws.{found-here, found_at-between}
use Rattle.syntect_regex.specs.syntect_pattern_backtrack.Machine.{FindsAt, groups_of}
use Rattle.syntect_regex.specs.syntect_pattern_backtrack.declared.state.Search.{Search}
use Rattle.syntect_regex.specs.syntect_pattern_table.declared.program.Program.{Program}
use Rattle.syntect_regex.specs.Region.{BeginsAt, TakesHere}
use Rattle.syntect_pattern_seek.proofs.NextLaws.{found-next}

-- the group that a match closes last begins where the match does
closed : (i j : ℕ) (h g : Groups) → slice_set h 0 (Some (i, j)) ≡ g → BeginsAt g i
closed i j [] g e start end f =
    let q : ℕ × ℕ = (start, end) in
    let n : None ≡ Some q = ap (λ (x : Groups). get_or x 0 None) e ∙ f in cc
closed i j (x ∷ xs) g e start end f =
    let p : ℕ × ℕ = (i, j) in
    let q : ℕ × ℕ = (start, end) in
    let n : Some p ≡ Some q = ap (λ (y : Groups). get_or y 0 None) e ∙ f in
    let same : p ≡ q = cc in
    sym (ap (λ (z : ℕ × ℕ). z.0) same)

first_closed : (i : ℕ) (ms : List Member) (g : Groups) → option_map (λ (m : Member). m.1) (slice_get (map (close 0 i) ms) 0) ≡ Some g → BeginsAt g i
first_closed i [] g e = cc
first_closed i ((j, h) ∷ ms) g e = closed i j h g (let f : Some (slice_set h 0 (Some (i, j))) ≡ Some g = e in cc)

begins : (s : List ℕ) (tree : Tree) (i : ℕ) (g : Groups) → found_at s tree i ≡ Some g → BeginsAt g i
unfolding found_at
begins s tree i g e = by (is_boundary s i) refl e
  where
    by : (b : Bool) → is_boundary s i ≡ b
        → (if b then option_map (λ (m : Member). m.1) (slice_get (matches s (group 0 tree) i (unset s tree)) 0) else None) ≡ Some g → BeginsAt g i
    by true f h = first_closed i (matches s tree i (unset s tree)) g h
    by false f h = cc

outside : (s : List ℕ) (i : ℕ) → length s < i → is_boundary s i ≡ false
unfolding is_boundary
outside s i l = let e : nat_le i (length s) ≡ false = grind (arith, nat_tests) in rw e refl

inside : (s : List ℕ) (tree : Tree) (i : ℕ) (g : Groups) → found_at s tree i ≡ Some g → i ≤ length s
inside s tree i g e = elim (cases_lt (length s) i) [
  | inl l ↦ absurd (let n : None ≡ Some g = sym (found_at-between s tree i (outside s i l)) ∙ e in cc)
  | inr l ↦ l
]

pub taken_here : (s : List ℕ) (p : Program) (place : ℕ) (old new : Groups) (b : Bool) (x : Search) → FindsAt s p place (groups_of b x)
    → (b ≡ true → new ≡ x.groups.items) → (b ≡ false → new ≡ old) → TakesHere s p place old b new
taken_here s p place old new true x f t n tree is =
    let e : found_at s tree place ≡ Some new = sym (f tree is) ∙ ap Some (sym (t refl)) in
    (found-here s tree place new (inside s tree place new e) e, begins s tree place new e)
taken_here s p place old new false x f t n tree is = (n refl, found-next s tree place (sym (f tree is)))
