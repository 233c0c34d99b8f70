-- Lines that have no key in their first column.
use Rattle.std.proofs.Common.{◌≡◌, ℕ, zero, suc, ◌+◌, ◌-◌, ◌<◌, ◌≤◌, ◌⊎◌, inl, inr, ⊎_elim, true, ◌==◌, List, length, take, drop, get_or, slice_index, length-drop, eq-or-lt_of_le, codes, ap, sym, ◌∙◌, subst, arith}
use Rattle.std.proofs.lemmas.List.{drop-drop, get_or-drop}
use Rattle.memchr.specs.Find.{Nowhere, NoneBefore, OccursAt, Passes, is_byte}
use Rattle.syntect_shelf.specs.Heads.{is_deep, StaysDeep, IsFront}

below_or_not : (k n : ℕ) → (k < n) ⊎ (n ≤ k)
below_or_not k zero = inr (omega arith)
below_or_not zero (suc n) = inl (omega arith)
below_or_not (suc k) (suc n) = ⊎_elim (λ l. inl (omega (arith, l))) (λ l. inr (omega (arith, l))) (below_or_not k n)

-- there is no line feed
pub no_feed : (rest : List ℕ) → Nowhere (Passes (is_byte 10) rest) 0 (length rest) → StaysDeep rest
no_feed rest h k l e = absurd (h k (omega arith) l (ap (λ x. x == 10) e))

-- after the first line feed a line is deep, and so are those after it
pub deep_step : (rest : List ℕ) (feed : ℕ) → NoneBefore (Passes (is_byte 10) rest) 0 (length rest) feed → is_deep (drop (feed + 1) rest) ≡ true → StaysDeep (drop (feed + 1) rest) → StaysDeep rest
deep_step rest feed none deep later k l e = ⊎_elim before (λ le. ⊎_elim here after (eq-or-lt_of_le le)) (below_or_not k feed)
  where
    before : k < feed → is_deep (drop (k + 1) rest) ≡ true
    before lt = absurd (none.before k (omega arith) lt (ap (λ x. x == 10) e))

    here : feed ≡ k → is_deep (drop (k + 1) rest) ≡ true
    here same = subst (λ (n : ℕ). is_deep (drop (n + 1) rest) ≡ true) same deep

    after : feed < k → is_deep (drop (k + 1) rest) ≡ true
    after lt =
        let j : ℕ = k - (feed + 1) in
        let place : feed + 1 + (k - (feed + 1)) ≡ k = omega (arith, lt) in
        let within : k - (feed + 1) < length (drop (feed + 1) rest) = omega (arith, length-drop (feed + 1) rest, lt, l) in
        let byte : slice_index (drop (feed + 1) rest) (k - (feed + 1)) ≡ 10
        = get_or-drop (feed + 1) rest (k - (feed + 1)) 0 ∙ ap (λ n. get_or rest n 0) place ∙ e in
        let next : feed + 1 + (k - (feed + 1) + 1) ≡ k + 1 = omega (arith, lt) in
        let same : drop (k - (feed + 1) + 1) (drop (feed + 1) rest) ≡ drop (k + 1) rest
        = drop-drop (k - (feed + 1) + 1) (feed + 1) rest ∙ ap (λ n. drop n rest) next in
        ap is_deep (sym same) ∙ later (k - (feed + 1)) within byte

-- the same of a text that is cut twice
pub cut_step : (rest from line : List ℕ) (feed : ℕ) → NoneBefore (Passes (is_byte 10) rest) 0 (length rest) feed → from ≡ drop feed rest → line ≡ drop 1 from → is_deep line ≡ true → StaysDeep line → StaysDeep rest
cut_step rest from line feed none f l deep later =
    let same : line ≡ drop (feed + 1) rest = l ∙ ap (λ (x : List ℕ). drop 1 x) f ∙ drop-drop 1 feed rest in
    deep_step rest feed none (subst (λ (x : List ℕ). is_deep x ≡ true) same deep) (subst StaysDeep same later)

pub cut_within : (rest from : List ℕ) (feed : ℕ) → feed < length rest → from ≡ drop feed rest → 1 ≤ length from
cut_within rest from feed l f = omega (arith, l, ap length f, length-drop feed rest)

pub is_front : (text front from line : List ℕ) (at : ℕ) → OccursAt text (codes "\ncontexts:") at → front ≡ take at text → from ≡ drop at text → line ≡ drop 1 from → StaysDeep line → IsFront text front
is_front text front from line at o b f l deep = record {
  place = at;
  front_is = b;
  contexts = o;
  deep = subst StaysDeep (l ∙ ap (λ (x : List ℕ). drop 1 x) f) deep;
}
