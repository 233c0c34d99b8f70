-- The captures of a match that was found lie as its groups do.
use Rattle.std.proofs.Common.{◌≡◌, inl, inr, ℕ, ◌≤◌, ◌<◌, nat_lt, nat_le, Bool, true, false, not, ◌&&◌, List, [], ◌∷◌, ◌++◌, map, Option, Some, None, refl, sym, ap, ◌∙◌, arith, if◌then◌else◌}
use Rattle.std.specs.Prelude.{unwrap_or, slice_index_or}
use Rattle.std.specs.List.{filter_map, flat_map, cons_option}
use Rattle.std.specs.Option.{option_map_or}
use Rattle.std.specs.Str.{IsUtf8}
use Rattle.std.proofs.lemmas.Bool.Decides.{nat_tests}
use Rattle.syntect_reading_choice.specs.Engine.{dialect}
use Rattle.syntect_parsing.specs.syntect_grammar_contexts.Substitution.{Groups}
use Rattle.syntect_reading_choice.specs.Turn.{Live, group_at}
use Rattle.syntect_parsing.specs.Scopes.{Scopes, Capture, effect, captures}
use Rattle.syntect_parsing.specs.Laws.{LaysGroupsOut, LaysOut}
use Rattle.syntect_parsing.specs.MatchViews.{marks_of, seen_mark, mark_operations}
use Rattle.syntect_parsing.specs.Sorting.{in_order}
use Rattle.syntect_parsing.specs.Operations.{capture_operations}
use Rattle.syntect_parsing.specs.declared.captures.Mark.{Mark}
use Rattle.syntect_parsing.proofs.syntect_grammar_contexts_proofs.SubstitutionLaws.{group_flat}
use Rattle.syntect_parsing.proofs.CaptureLaws.{In, Each, AreLaidOut, EndOnBoundaries}
use Rattle.syntect_parsing.proofs.MarkLaws.{LiesWithin, marks_make, none_make}

from_filter_map : {X Y : Type 0} (f : X → Option Y) (y : Y) (xs : List X) → In y (filter_map f xs) → (x : X) × (f x ≡ Some y)
from_filter_map f y [] h = absurd h
from_filter_map {X} {Y} f y (x ∷ xs) h = by (f x) refl h (λ k. from_filter_map f y xs k)
  where
    by : (o : Option Y) → f x ≡ o → In y (cons_option o (filter_map f xs)) → (In y (filter_map f xs) → (x : X) × (f x ≡ Some y)) → (x : X) × (f x ≡ Some y)
    by None e h rest = rest h
    by (Some z) e (inl k) rest = (x, e ∙ ap (λ w. Some w) k)
    by (Some z) e (inr k) rest = rest k

-- a group that was set, and whether a capture of it has effect
pub effect_is : (m : Live) (group : ℕ) (groups : Groups) (at : ℕ × ℕ) (b : Bool) → slice_index_or groups group None ≡ Some at
    → b ≡ (nat_lt at.0 at.1 && nat_le m.start at.0 && nat_le at.1 m.end && not (dialect.in_lookaround m.searched group))
    → (scopes : Scopes) → (if b then Some (record { start = at.0; end = at.1; scopes = scopes }) else None) ≡ effect dialect m group scopes (group_at groups group)
effect_is m group groups at b e f scopes =
    ap (λ (x : Bool). if x then Some (record { start = at.0; end = at.1; scopes = scopes }) else None) f
    ∙ sym (ap (λ (o : Option (ℕ × ℕ)). effect dialect m group scopes o) (sym (group_flat groups group) ∙ e))

-- a capture that has effect: its group, and what it passed
record IsOf (m : Live) (c : Capture) : Type 0 where
  group : ℕ
  stands : group_at m.groups group ≡ Some (c.start, c.end)
  rises : c.start < c.end
  from : m.start ≤ c.start
  to : c.end ≤ m.end
  outside : dialect.in_lookaround m.searched group ≡ false

tests : (x y z : Bool) (w : Bool) (c d : Capture) → (if x && y && z && not w then Some c else None) ≡ Some d → (x ≡ true) × (y ≡ true) × (z ≡ true) × (w ≡ false) × (c ≡ d)
tests true true true false c d e = (refl, refl, refl, refl, cc)
tests true true true true c d e = cc
tests true true false w c d e = cc
tests true false z w c d e = cc
tests false y z w c d e = cc

is_of : (m : Live) (c : Capture) (group : ℕ) (scopes : Scopes) (o : Option (ℕ × ℕ)) → group_at m.groups group ≡ o → effect dialect m group scopes o ≡ Some c → IsOf m c
is_of m c group scopes None g e = cc
is_of m c group scopes (Some at) g e =
    let t = tests (nat_lt at.0 at.1) (nat_le m.start at.0) (nat_le at.1 m.end) (dialect.in_lookaround m.searched group) (record { start = at.0; end = at.1; scopes = scopes }) c e in
    let t0 = t.0 in
    let t1 = t.1 in
    let t2 = t.2 in
    let starts : at.0 ≡ c.start = ap (λ (x : Capture). x.start) t.4 in
    let ends : at.1 ≡ c.end = ap (λ (x : Capture). x.end) t.4 in
    let rises : at.0 < at.1 = grind (arith, nat_tests) in
    let from : m.start ≤ at.0 = grind (arith, nat_tests) in
    let to : at.1 ≤ m.end = grind (arith, nat_tests) in
    record {
      group = group;
      stands = g ∙ ap (λ (x : ℕ × ℕ). Some x) (ap (λ k. (k, at.1)) starts ∙ ap (λ k. (c.start, k)) ends);
      rises = omega (arith, starts, ends, rises);
      from = omega (arith, starts, from);
      to = omega (arith, ends, to);
      outside = t.3;
    }

of_captures : (m : Live) (c : Capture) → In c (captures dialect m) → IsOf m c
of_captures m c h =
    let k = from_filter_map (λ (entry : ℕ × Scopes). effect dialect m entry.0 entry.1 (group_at m.groups entry.0)) c (unwrap_or m.pattern.captures []) h in
    is_of m c k.0.0 k.0.1 (group_at m.groups k.0.0) refl k.1

each_of : (P : Capture → Type 0) (cs : List Capture) → ((c : Capture) → In c cs → P c) → Each P cs
each_of P [] h = tt
each_of P (c ∷ cs) h = (h c (inl refl), each_of P cs (λ d i. h d (inr i)))

pub captures_within : (m : Live) → Each (LiesWithin m.start m.end) (captures dialect m)
captures_within m = each_of (LiesWithin m.start m.end) (captures dialect m) (λ c i. let x = of_captures m c i in (x.from, x.rises, x.to))

-- without groups no capture has effect
pub no_captures : (m : Live) → m.groups ≡ [] → captures dialect m ≡ []
no_captures m e = by (unwrap_or m.pattern.captures [])
  where
    one : (group : ℕ) (scopes : Scopes) → effect dialect m group scopes (group_at m.groups group) ≡ None
    one group scopes = rw e refl

    by : (entries : List (ℕ × Scopes)) → filter_map (λ (entry : ℕ × Scopes). effect dialect m entry.0 entry.1 (group_at m.groups entry.0)) entries ≡ []
    by [] = refl
    by (entry ∷ entries) = rw (one entry.0 entry.1) (by entries)

-- the marks of the captures of a list begin with those of the first
pub marks_step : (f : ℕ × Scopes → Option Capture) (entry : ℕ × Scopes) (entries : List (ℕ × Scopes))
    → flat_map marks_of (filter_map f (entry ∷ entries)) ≡ option_map_or marks_of (f entry) [] ++ flat_map marks_of (filter_map f entries)
marks_step f entry entries = by (f entry)
  where
    by : (o : Option Capture) → flat_map marks_of (cons_option o (filter_map f entries)) ≡ option_map_or marks_of o [] ++ flat_map marks_of (filter_map f entries)
    by None = refl
    by (Some c) = refl

unset : (m : Live) (c : Capture) → m.groups ≡ [] → IsOf m c → ⊥
unset m c e h = let k = rw e at h.stands in cc

-- the match of the searched pattern from the place on
module _ (law : LaysGroupsOut dialect) (line : List ℕ) (u : IsUtf8 line) (place : ℕ) (m : Live) where
  by_found : (o : Option Groups) → dialect.found m.searched line place ≡ o → m.groups ≡ unwrap_or o [] → (c : Capture) → IsOf m c → LaysOut dialect m.searched line m.groups
  by_found None e f c h = absurd (unset m c f h)
  by_found (Some groups) e f c h = rw f (law m.searched line place groups u e)

  pub captures_laid_out : m.groups ≡ unwrap_or (dialect.found m.searched line place) [] → AreLaidOut m.start m.end (captures dialect m)
  captures_laid_out f = record {
    rise = λ c i. (of_captures m c i).rises;
    from = λ c i. (of_captures m c i).from;
    to = λ c i. (of_captures m c i).to;
    nested = λ c d i j.
        let x = of_captures m c i in
        let y = of_captures m d j in
        (by_found (dialect.found m.searched line place) refl f c x).nested x.group y.group (c.start, c.end) (d.start, d.end) x.outside y.outside x.stands y.stands;
  }

  pub captures_on_boundaries : m.groups ≡ unwrap_or (dialect.found m.searched line place) [] → EndOnBoundaries line (captures dialect m)
  captures_on_boundaries f = record {
    starts = λ c i.
        let x = of_captures m c i in
        ((by_found (dialect.found m.searched line place) refl f c x).lies x.group (c.start, c.end) x.outside x.stands).starts;
    ends = λ c i.
        let x = of_captures m c i in
        ((by_found (dialect.found m.searched line place) refl f c x).lies x.group (c.start, c.end) x.outside x.stands).ends;
  }

-- the marks that are made of a match's groups
pub found_marks : (m : Live) (region : Groups) (marks : List Mark) (entries : List (ℕ × Scopes)) → region ≡ m.groups → m.pattern.captures ≡ Some entries
    → map seen_mark marks ≡ flat_map marks_of (filter_map (λ entry. effect dialect m entry.0 entry.1 (group_at region entry.0)) entries)
    → m.start ≤ m.end → m.end ≤ 18446744073709551615
    → flat_map mark_operations (map seen_mark (in_order (λ k. k.place) (in_order (λ k. k.rank) marks))) ≡ capture_operations m.start m.end (captures dialect m)
found_marks m region marks entries same e f l h =
    let is : map seen_mark marks ≡ flat_map marks_of (captures dialect m) =
    f ∙ ap (λ (x : Groups). flat_map marks_of (filter_map (λ (entry : ℕ × Scopes). effect dialect m entry.0 entry.1 (group_at x entry.0)) entries)) same
    ∙ sym (ap (λ (x : Option (List (ℕ × Scopes))). flat_map marks_of (filter_map (λ (entry : ℕ × Scopes). effect dialect m entry.0 entry.1 (group_at m.groups entry.0)) (unwrap_or x []))) e)
    in
    marks_make marks m.start m.end (captures dialect m) is l h (captures_within m)

-- where the pattern has no captures nothing is made
pub no_marks : (m : Live) → captures dialect m ≡ [] → [] ≡ capture_operations m.start m.end (captures dialect m)
no_marks m e = sym (ap (capture_operations m.start m.end) e ∙ none_make m.start m.end)

pub unlisted : (m : Live) → unwrap_or m.pattern.captures [] ≡ [] → captures dialect m ≡ []
unlisted m e = ap (filter_map (λ (entry : ℕ × Scopes). effect dialect m entry.0 entry.1 (group_at m.groups entry.0))) e
