-- Variables that are open, from turn to turn.
use Rattle.std.proofs.Common.{◌≡◌, ℕ, Bool, true, false, cond, ◌||◌, List, [], ◌∷◌, ◌++◌, Option, Some, None, refl, sym, ap, ◌∙◌, inl, inr, subst}
use Rattle.std.proofs.lemmas.Bool.{true≢false}
use Rattle.std.proofs.lemmas.Map.Text.{is_eq-slice_cmp}
use Rattle.std.proofs.lemmas.Slice.Eq.{bytes_eq-Decides}
use Rattle.std.specs.BTreeMap.{insert_entry, is_at}
use Rattle.std.specs.Cmp.Lexicographic.{slice_cmp}
use Rattle.std.specs.Map.{lookup}
use Rattle.std.specs.Option.{unwrap_or, option_copied}
use Rattle.std.specs.Borrow.{Bor}
use Rattle.std.specs.Ordering.{nat_cmp, is_eq, match_ordering}
use Rattle.std.specs.Str.{bytes_eq}
use Rattle.std.specs.declared.cmp.Ordering.{Ordering}
use Rattle.std.specs.declared.cmp.Ordering.TheVariants.{Less, Equal, Greater}
use Rattle.syntect_grammar_rewrite.specs.Variables.{Variables}
use Rattle.syntect_grammar_rewrite.specs.declared.expand.Frame.{Frame}
use Rattle.syntect_grammar_rewrite.specs.Expanding.{inner, is_open, is_among, AreApart, AreOpen}
use Rattle.syntect_grammar_rewrite.proofs.VariableLaws.{cases, same_text, turned, open_none, lookup_by_order}

-- ---- a mark that is set

module _ (name k : List ℕ) (v : Bool) where
  set_at : (e : List ℕ × Bool) (es rest : List (List ℕ × Bool)) (o : Ordering) → slice_cmp nat_cmp k e.0 ≡ o
      → lookup (bytes_eq name) rest ≡ cond (bytes_eq name k) (Some v) (lookup (bytes_eq name) es)
      → lookup (bytes_eq name) (match_ordering o ((k, v) ∷ e ∷ es) ((e.0, v) ∷ es) (e ∷ rest)) ≡ cond (bytes_eq name k) (Some v) (lookup (bytes_eq name) (e ∷ es))
  set_at e es rest Less q h = refl
  set_at e es rest Equal q h =
      let same : k ≡ e.0 = same_text k e.0 (sym (is_eq-slice_cmp k e.0) ∙ ap is_eq q) in
      subst (λ (x : List ℕ). cond (bytes_eq name e.0) (Some v) (lookup (bytes_eq name) es) ≡ cond (bytes_eq name x) (Some v) (lookup (bytes_eq name) (e ∷ es))) (sym same) (elim (cases (bytes_eq name e.0)) [
        | inl b ↦ rw b refl
        | inr b ↦ rw b refl
      ])
  set_at e es rest Greater q h = elim (cases (bytes_eq name e.0)) [
    | inl b ↦
        let other : bytes_eq k e.0 ≡ false = sym (is_eq-slice_cmp k e.0) ∙ ap is_eq q in
        let apart : bytes_eq name k ≡ false = elim (cases (bytes_eq name k)) [
          | inl c ↦ absurd (true≢false (sym ((bytes_eq-Decides k e.0).1 (sym (same_text name k c) ∙ same_text name e.0 b)) ∙ other))
          | inr c ↦ c
        ] in
        rw (b, apart) refl
    | inr b ↦ rw b h
  ]

  set_lookup : (es : List (List ℕ × Bool)) → lookup (bytes_eq name) (insert_entry (slice_cmp nat_cmp) es k v) ≡ cond (bytes_eq name k) (Some v) (lookup (bytes_eq name) es)
  set_lookup [] = refl
  set_lookup (e ∷ es) = set_at e es (insert_entry (slice_cmp nat_cmp) es k v) (slice_cmp nat_cmp k e.0) refl (set_lookup es)

  marked_by : (b : Bool) (o : Option Bool) → unwrap_or (cond b (Some v) o) false ≡ cond b v (unwrap_or o false)
  marked_by true o = refl
  marked_by false o = refl

  set_mark : (es : List (List ℕ × Bool)) → is_open name (insert_entry (slice_cmp nat_cmp) es k v) ≡ cond (bytes_eq name k) v (is_open name es)
  set_mark es = ap (λ (o : Option Bool). unwrap_or o false) (set_lookup es) ∙ marked_by (bytes_eq name k) (lookup (bytes_eq name) es)

found_mark : (name : List ℕ) (marks : List (List ℕ × Bool)) (r : Option (Bor Bool)) → option_copied r ≡ lookup (is_at (slice_cmp nat_cmp name)) marks → unwrap_or (option_copied r) false ≡ is_open name marks
found_mark name marks r e = ap (λ (o : Option Bool). unwrap_or o false) (e ∙ lookup_by_order name marks)

pub mark_is : (name : List ℕ) (marks : List (List ℕ × Bool)) (r s : Option (Bor Bool)) → r ≡ s → option_copied r ≡ lookup (is_at (slice_cmp nat_cmp name)) marks → unwrap_or (option_copied s) false ≡ is_open name marks
mark_is name marks r s q e = ap (λ (o : Option (Bor Bool)). unwrap_or (option_copied o) false) (sym q) ∙ found_mark name marks r e

-- ---- frames

or_assoc : (a b c : Bool) → (a || (b || c)) ≡ ((a || b) || c)
or_assoc true b c = refl
or_assoc false b c = refl

or_none : (b : Bool) → (b || false) ≡ b
or_none true = refl
or_none false = refl

neither : (a b : Bool) → (a || b) ≡ false → (a ≡ false) × (b ≡ false)
neither true b e = absurd (true≢false e)
neither false b e = (refl, e)

among_last : (name : List ℕ) (fs : List Frame) (g : Frame) → is_among name (fs ++ g ∷ []) ≡ (is_among name fs || bytes_eq g.name name)
among_last name [] g = or_none (bytes_eq g.name name)
among_last name (f ∷ fs) g = ap (λ (b : Bool). bytes_eq f.name name || b) (among_last name fs g) ∙ or_assoc (bytes_eq f.name name) (is_among name fs) (bytes_eq g.name name)

both_none : (a b : Bool) → a ≡ false → b ≡ false → (a || b) ≡ false
both_none a b e f = rw (e, f) refl

apart_more : (fs : List Frame) (g : Frame) → is_among g.name fs ≡ false → AreApart fs → AreApart (fs ++ g ∷ [])
apart_more [] g e a = (refl, a)
apart_more (f ∷ fs) g e a =
    let two = neither (bytes_eq f.name g.name) (is_among g.name fs) e in
    (among_last f.name fs g ∙ both_none (is_among f.name fs) (bytes_eq g.name f.name) a.0 (turned g.name f.name ∙ two.0), apart_more fs g two.1 a.1)

apart_fewer : (fs : List Frame) (g : Frame) → AreApart (fs ++ g ∷ []) → (is_among g.name fs ≡ false) × AreApart fs
apart_fewer [] g a = (refl, tt)
apart_fewer (f ∷ fs) g a =
    let two = neither (is_among f.name fs) (bytes_eq g.name f.name) (sym (among_last f.name fs g) ∙ a.0) in
    let more = apart_fewer fs g a.1 in
    (both_none (bytes_eq f.name g.name) (is_among g.name fs) (turned f.name g.name ∙ two.1) more.0, (two.0, more.1))

-- ---- opened and closed

opened_name : (a b : Bool) → cond b true a ≡ (a || b)
opened_name true true = refl
opened_name true false = refl
opened_name false true = refl
opened_name false false = refl

pub open_more : (marks later : List (List ℕ × Bool)) (fs gs : List Frame) (g : Frame) (name : List ℕ) → AreOpen marks fs → is_among g.name fs ≡ false → name ≡ g.name → later ≡ insert_entry (slice_cmp nat_cmp) marks name true
    → gs ≡ fs ++ g ∷ [] → AreOpen later gs
open_more marks later fs gs g name o e n l h = record {
  names = λ x.
      ap (is_open x) l ∙ set_mark x name true marks
      ∙ ap (λ (b : Bool). cond b true (is_open x marks)) (ap (bytes_eq x) n ∙ turned x g.name)
      ∙ ap (λ (b : Bool). cond (bytes_eq g.name x) true b) (o.names x)
      ∙ opened_name (is_among x fs) (bytes_eq g.name x)
      ∙ sym (among_last x fs g) ∙ ap (is_among x) (sym h);
  apart = subst AreApart (sym h) (apart_more fs g e o.apart);
}

closed_name : (a b : Bool) → (b ≡ true → a ≡ false) → cond b false (a || b) ≡ a
closed_name a true h = sym (h refl)
closed_name a false h = or_none a

pub open_fewer : (marks later : List (List ℕ × Bool)) (fs gs : List Frame) (g : Frame) (name : List ℕ) → AreOpen marks fs → fs ≡ gs ++ g ∷ [] → name ≡ g.name → later ≡ insert_entry (slice_cmp nat_cmp) marks name false
    → AreOpen later gs
open_fewer marks later fs gs g name o h n l =
    let two = apart_fewer gs g (subst AreApart h o.apart) in
    record {
      names = λ x.
          ap (is_open x) l ∙ set_mark x name false marks
          ∙ ap (λ (b : Bool). cond b false (is_open x marks)) (ap (bytes_eq x) n ∙ turned x g.name)
          ∙ ap (λ (b : Bool). cond (bytes_eq g.name x) false b) (o.names x ∙ ap (is_among x) h ∙ among_last x gs g)
          ∙ closed_name (is_among x gs) (bytes_eq g.name x) (λ b. ap (λ (y : List ℕ). is_among y gs) (sym (same_text g.name x b)) ∙ two.0);
      apart = two.1;
    }

pub open_first : (marks : List (List ℕ × Bool)) (fs : List Frame) → marks ≡ [] → fs ≡ [] → AreOpen marks fs
open_first marks fs e f = subst (λ ms. AreOpen ms fs) (sym e) (subst (AreOpen []) (sym f) (record { names = λ name. refl; apart = tt }))

-- a variable that can be gone into is not open
pub not_open : (name text : List ℕ) (vs : Variables) (fs : List Frame) → lookup (bytes_eq name) (inner vs fs) ≡ Some text → is_among name fs ≡ false
not_open name text vs fs e = elim (cases (is_among name fs)) [
  | inl b ↦ let q : None ≡ Some text = sym (open_none name vs fs b) ∙ e in absurd (none_is_some text q)
  | inr b ↦ b
]
  where
    none_is_some : (text : List ℕ) → None ≡ Some text → ⊥
    none_is_some text q = cc
