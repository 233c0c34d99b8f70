-- Patterns whose places stand in a table.
use Rattle.std.proofs.Common.{◌≡◌, ◌<◌, ◌≤◌, ◌+◌, ℕ, List, [], ◌∷◌, ◌++◌, length, get_or, map, take, Some, refl, sym, ap, subst, ◌∙◌, arith, inl, inr}
use Rattle.std.specs.Prelude.{slice_get, ◌||◌}
use Rattle.std.specs.List.{list_any}
use Rattle.std.proofs.Math.Seq.{get_or-append_seam}
use Rattle.std.proofs.lemmas.Bool.{cases_lt}
use Rattle.std.proofs.lemmas.List.{get_or-map, get_or_append_left, length-append, length-map, take_more}
use Rattle.std.proofs.lemmas.Option.{get_or_from_slice_get, slice_get-get_or, slice_get_read, slice_get_within}
use Rattle.syntect_grammar_lists.specs.syntect_pattern_table.declared.starts.Places.{Places}
use Rattle.syntect_grammar_lists.specs.Rows.{IsOut}
use Rattle.syntect_grammar_lists.specs.Slims.{IsSlimOf, nothing, origin_of, places_at, widened}
use Rattle.syntect_grammar_lists.specs.declared.flats.Flat.{Flat}
use Rattle.syntect_grammar_lists.specs.declared.flats.Outlook.{Outlook}
use Rattle.syntect_grammar_lists.specs.declared.slims.Slim.{Slim}

-- ---- a table that grows ----

-- all that stands in a table stands in the other one too
abbrev pub Stays : List Places → List Places → Type 0
Stays old new = (n : ℕ) (p : Places) → slice_get old n ≡ Some p → slice_get new n ≡ Some p

pub stays_before : (xs ys : List Places) → Stays xs (xs ++ ys)
stays_before xs ys n p e =
    let l : n < length xs = slice_get_within xs n p e in
    slice_get-get_or (xs ++ ys) n p (omega (arith, l, length-append xs ys)) ∙ ap (λ q. Some q) (get_or_append_left xs ys p n l ∙ get_or_from_slice_get xs n p p e)

pub stands_last : (xs : List Places) (p : Places) → slice_get (xs ++ p ∷ []) (length xs) ≡ Some p
stands_last xs p = slice_get_read (xs ++ p ∷ []) (length (xs ++ p ∷ [])) (length xs) p refl (omega (arith, length-append xs (p ∷ []))) (sym (get_or-append_seam xs p [] p))

-- ---- patterns that are kept by a table ----

pub slim_stays : (old new : List Places) (flat : Flat) (slim : Slim) → Stays old new → IsSlimOf old flat slim → IsSlimOf new flat slim
slim_stays old new flat slim s h = record {
  begins = s slim.begins flat.begins h.begins;
  words = s slim.words flat.words h.words;
  blanks = s slim.blanks flat.blanks h.blanks;
  at_edges = h.at_edges;
  at_lines = h.at_lines;
  syntax = h.syntax;
  context = h.context;
  index = h.index;
  has_captures = h.has_captures;
}

pub slim_widens : (table : List Places) (flat : Flat) (slim : Slim) → IsSlimOf table flat slim → widened table slim ≡ flat
slim_widens table flat slim h =
    let begins : places_at table slim.begins ≡ flat.begins = get_or_from_slice_get table slim.begins flat.begins nothing h.begins in
    let words : places_at table slim.words ≡ flat.words = get_or_from_slice_get table slim.words flat.words nothing h.words in
    let blanks : places_at table slim.blanks ≡ flat.blanks = get_or_from_slice_get table slim.blanks flat.blanks nothing h.blanks in
    rw (begins, words, blanks, h.at_edges, h.at_lines, h.syntax, h.context, h.index, h.has_captures) refl

-- each pattern is kept so
abbrev pub AreSlimsOf : List Places → List Flat → List Slim → Type 0
AreSlimsOf table [] [] = Unit {0}
AreSlimsOf table (flat ∷ flats) (slim ∷ slims) = IsSlimOf table flat slim × AreSlimsOf table flats slims
AreSlimsOf table [] (slim ∷ slims) = ⊥
AreSlimsOf table (flat ∷ flats) [] = ⊥

pub slims_stay : (old new : List Places) (flats : List Flat) (slims : List Slim) → Stays old new → AreSlimsOf old flats slims → AreSlimsOf new flats slims
slims_stay old new [] [] s h = tt
slims_stay old new (flat ∷ flats) (slim ∷ slims) s h = (slim_stays old new flat slim s h.0, slims_stay old new flats slims s h.1)
slims_stay old new [] (slim ∷ slims) s h = h
slims_stay old new (flat ∷ flats) [] s h = h

pub slims_more : (table : List Places) (flats : List Flat) (slims : List Slim) (flat : Flat) (slim : Slim) → AreSlimsOf table flats slims → IsSlimOf table flat slim
    → AreSlimsOf table (flats ++ flat ∷ []) (slims ++ slim ∷ [])
slims_more table [] [] flat slim h is = (is, tt)
slims_more table (f ∷ flats) (s ∷ slims) flat slim h is = (h.0, slims_more table flats slims flat slim h.1 is)
slims_more table [] (s ∷ slims) flat slim h is = absurd h
slims_more table (f ∷ flats) [] flat slim h is = absurd h

-- one pattern more, which is kept by the table as it is then
pub slims_pushed : (old new : List Places) (flats : List Flat) (i : ℕ) (flat : Flat) (slims after : List Slim) (slim : Slim) → i < length flats → flat ≡ get_or flats i flat → after ≡ slims ++ slim ∷ []
    → Stays old new → IsSlimOf new flat slim → AreSlimsOf old (take i flats) slims → AreSlimsOf new (take (i + 1) flats) after
slims_pushed old new flats i flat slims after slim l is e s kept h =
    subst (AreSlimsOf new (take (i + 1) flats)) (sym e)
    (subst (λ fs. AreSlimsOf new fs (slims ++ slim ∷ [])) (sym (take_more flats i flat l ∙ ap (λ f. take i flats ++ f ∷ []) (sym is)))
    (slims_more new (take i flats) slims flat slim (slims_stay old new (take i flats) slims s h) kept))

pub slims_widen : (table : List Places) (flats : List Flat) (slims : List Slim) → AreSlimsOf table flats slims → map (widened table) slims ≡ flats
slims_widen table [] [] h = refl
slims_widen table (flat ∷ flats) (slim ∷ slims) h = rw (slim_widens table flat slim h.0, slims_widen table flats slims h.1) refl
slims_widen table [] (slim ∷ slims) h = absurd h
slims_widen table (flat ∷ flats) [] h = absurd h

pub captures_widened : (table : List Places) (slims : List Slim) → list_any (λ f. f.has_captures) (map (widened table) slims) ≡ list_any (λ s. s.has_captures) slims
captures_widened table [] = refl
captures_widened table (slim ∷ slims) = ap (λ b. slim.has_captures || b) (captures_widened table slims)

pub origin_stands : (table : List Places) (slims : List Slim) (flats : List Flat) (index : ℕ) (slim : Slim) (d : Flat) → map (widened table) slims ≡ flats → index < length flats → slim ≡ get_or slims index slim
    → origin_of (widened table slim) ≡ origin_of (get_or flats index d)
origin_stands table slims flats index slim d view inside is =
    let l : index < length slims = omega (arith, inside, ap length view, length-map slims (widened table)) in
    ap origin_of (ap (widened table) is ∙ sym (get_or-map (widened table) slims index slim d l) ∙ ap (λ fs. get_or fs index d) view)

-- ---- one more that is passed over ----

pub out_more : (o : Outlook) (table : List Places) (slims : List Slim) (from next : ℕ) (slim : Slim) → slim ≡ get_or slims next slim → IsOut o (widened table slim)
    → ((k : ℕ) (d : Flat) → from ≤ k → k < next → k < length slims → IsOut o (get_or (map (widened table) slims) k d))
    → (k : ℕ) (d : Flat) → from ≤ k → k < next + 1 → k < length slims → IsOut o (get_or (map (widened table) slims) k d)
out_more o table slims from next slim is out before k d l m n = elim (cases_lt k next) [
  | inl b ↦ before k d l b n
  | inr b ↦
      (let same : k ≡ next = omega (arith, m, b) in
      let at : widened table slim ≡ get_or (map (widened table) slims) k d =
      sym (get_or-map (widened table) slims k slim d n ∙ ap (widened table) (ap (λ q. get_or slims q slim) same ∙ sym is)) in
      subst (IsOut o) at out)
]
