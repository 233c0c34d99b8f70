-- The words that come off the front of a text, one after another.
use Rattle.std.proofs.Common.{◌≡◌, ℕ, ◌<◌, ◌≤◌, Bool, true, false, not, List, [], ◌∷◌, ◌++◌, length, length-append, take, map, refl, ap, sym, ◌∙◌, arith, subst, inl, inr}
use Rattle.std.specs.Prelude.{nat_lt, ◌==◌, ◌&&◌, encode_utf8, encode_utf8_all}
use Rattle.std.specs.List.{slice_split}
use Rattle.std.specs.Char.{is_whitespace, is_not_whitespace, IsScalar}
use Rattle.std.specs.Str.{chars, IsUtf8, IsCharBoundary, NoCharPasses, EmptyOrStartsWithPassing, NonePass}
use Rattle.std.proofs.lemmas.Str.{chars-append, chars_from_encodes, chars_past_char, IsUtf8-take, IsUtf8-drop, IsUtf8-encode, IsCharBoundary-from_take, IsCharBoundary-start, length-le-encodes}
use Rattle.std.proofs.lemmas.List.{append-nil}
use Rattle.std.proofs.lemmas.Bool.{cases_lt}
use Rattle.std.proofs.lemmas.Bool.Decides.{nat_tests}
use Rattle.std.proofs.Math.Seq.{drop-append_seam, take-append_seam}
use Rattle.std.proofs.Math.Utf8.{low_scalar, scalar, scalars}
use Rattle.syntect_scope.specs.Words.{char_words, words}

-- ---- words of characters ----

-- white space at the front is passed over
pub char_words_past : (gap rest : List ℕ) → NonePass is_not_whitespace gap → char_words (gap ++ rest) ≡ char_words rest
char_words_past [] rest h = refl
char_words_past (c ∷ gap) rest h = rw (white c h.0) (char_words_past gap rest h.1)
  where
    flip : (b : Bool) → not b ≡ false → b ≡ true
    flip true e = refl
    flip false e = cc

    white : (c : ℕ) → is_not_whitespace c ≡ false → is_whitespace c ≡ true
    white c e = flip (is_whitespace c) e

-- characters without white space stand before the part that is cut next
split_word : (w rest : List ℕ) (parts : List (List ℕ)) → NonePass is_whitespace w → slice_split is_whitespace rest ≡ [] ∷ parts → slice_split is_whitespace (w ++ rest) ≡ w ∷ parts
split_word [] rest parts h e = e
split_word (c ∷ w) rest parts h e = rw (h.0, split_word w rest parts h.1 e) refl

pub first_word : (w rest : List ℕ) (parts : List (List ℕ)) → NonePass is_whitespace w → 0 < length w → slice_split is_whitespace rest ≡ [] ∷ parts → char_words (w ++ rest) ≡ w ∷ char_words rest
first_word w rest parts h l e =
    let k : nat_lt 0 (length w) ≡ true = grind (arith, nat_tests) in
    rw (split_word w rest parts h e, e, k) refl

-- ---- words of texts ----

not_below : (c n : ℕ) → n ≤ c → nat_lt c n ≡ false
not_below c n h = grind (arith, nat_tests)

not_equal : (c n : ℕ) → n < c → (c == n) ≡ false
not_equal c n h = grind (arith, nat_tests)

and_false : (b : Bool) → (b && false) ≡ false
and_false true = refl
and_false false = refl

far_white : (c : ℕ) → 55296 ≤ c → is_whitespace c ≡ false
far_white c g =
    rw (
      not_below c 14 (omega arith),
      not_below c 8203 (omega arith),
      and_false (nat_lt 8 c),
      and_false (nat_lt 8191 c),
      not_equal c 32 (omega arith),
      not_equal c 133 (omega arith),
      not_equal c 160 (omega arith),
      not_equal c 5760 (omega arith),
      not_equal c 8232 (omega arith),
      not_equal c 8233 (omega arith),
      not_equal c 8239 (omega arith),
      not_equal c 8287 (omega arith),
      not_equal c 12288 (omega arith),
    ) refl

white_scalar : (c : ℕ) → is_not_whitespace c ≡ false → scalar c ≡ true
white_scalar c e = elim (cases_lt c 55296) [
  | inl l ↦ low_scalar c l
  | inr g ↦ let w : is_not_whitespace c ≡ true = ap not (far_white c g) in cc
]

white_scalars : (cs : List ℕ) → NonePass is_not_whitespace cs → scalars cs ≡ true
white_scalars [] h = refl
white_scalars (c ∷ cs) h = rw (white_scalar c h.0, white_scalars cs h.1) refl

encode_some : (c : ℕ) → 0 < length (encode_utf8 c)
encode_some c = omega (arith, length-le-encodes (c ∷ []), length-append (encode_utf8 c) [])

first_lead : (es more : List ℕ) → 0 < length es → IsCharBoundary es 0 → IsCharBoundary (es ++ more) 0
first_lead [] more l b = absurd (omega arith)
first_lead (e ∷ es) more l b = (omega arith, λ k m. b.1 (omega arith) m)

-- the first byte of a character begins one
lead_byte : (c : ℕ) (more x : List ℕ) → IsScalar c → IsCharBoundary (x ++ (encode_utf8 c ++ more)) (length x)
lead_byte c more [] s = first_lead (encode_utf8 c) more (encode_some c) (IsCharBoundary-start (encode_utf8 c) (IsUtf8-encode c s))
lead_byte c more (b ∷ x) s =
    let ih : IsCharBoundary (x ++ (encode_utf8 c ++ more)) (length x) = lead_byte c more x s in
    (omega (arith, ih.0), λ k m. ih.1 (omega (arith, k)) m)

-- where the next white space or the end stands, a text may be cut
cut_after : (x r more : List ℕ) → EmptyOrStartsWithPassing is_whitespace r more → IsCharBoundary (x ++ r) (length x)
cut_after x [] more h = (omega (arith, length-append x []), λ k m. absurd (omega (arith, k, length-append x [])))
cut_after x (b ∷ r) more h =
    let w : (c : ℕ) × (is_whitespace c ≡ true) × (b ∷ r ≡ encode_utf8 c ++ more) × IsScalar c = h (omega arith) in
    subst (λ (l : List ℕ). IsCharBoundary (x ++ l) (length x)) (sym w.2) (lead_byte w.0 more x w.3)

-- what follows a word is cut from it
parts_after : (r more : List ℕ) → IsUtf8 r → EmptyOrStartsWithPassing is_whitespace r more → (parts : List (List ℕ)) × (slice_split is_whitespace (chars r) ≡ [] ∷ parts)
unfolding chars
parts_after [] more u h = ([], refl)
parts_after (b ∷ r) more u h =
    let w : (c : ℕ) × (is_whitespace c ≡ true) × (b ∷ r ≡ encode_utf8 c ++ more) × IsScalar c = h (omega arith) in
    let e : chars (b ∷ r) ≡ w.0 ∷ chars more = chars_past_char (b ∷ r) more w.0 u w.2 in
    (slice_split is_whitespace (chars more), ap (slice_split is_whitespace) e ∙ rw w.1 refl)

some_chars : (cs : List ℕ) → 0 < length (encode_utf8_all cs) → 0 < length cs
some_chars [] h = absurd (omega (arith, h))
some_chars (c ∷ cs) h = omega arith

-- one word comes off the front
pub word_step : (bs gap x r more : List ℕ) → IsUtf8 bs → bs ≡ gap ++ (x ++ r) → 0 < length x → NoCharPasses is_not_whitespace gap → NoCharPasses is_whitespace x → EmptyOrStartsWithPassing is_whitespace r more
    → IsUtf8 r × (words bs ≡ x ∷ words r)
word_step bs gap x r more u e l g n h =
    let whole : IsUtf8 (gap ++ (x ++ r)) = subst IsUtf8 e u in
    let ug : IsUtf8 gap = (g.0, (white_scalars g.0 g.2, g.1)) in
    let before : take (length gap) (gap ++ (x ++ r)) ≡ gap = take-append_seam gap (x ++ r) in
    let first : IsCharBoundary (gap ++ (x ++ r)) (length gap) = IsCharBoundary-from_take (gap ++ (x ++ r)) (length gap) whole (omega (arith, length-append gap (x ++ r))) (subst IsUtf8 (sym before) ug) in
    let behind : IsUtf8 (x ++ r) = subst IsUtf8 (drop-append_seam gap (x ++ r)) (IsUtf8-drop (gap ++ (x ++ r)) (length gap) whole first) in
    let second : IsCharBoundary (x ++ r) (length x) = cut_after x r more h in
    let ux : IsUtf8 x = subst IsUtf8 (take-append_seam x r) (IsUtf8-take (x ++ r) (length x) behind second) in
    let ur : IsUtf8 r = subst IsUtf8 (drop-append_seam x r) (IsUtf8-drop (x ++ r) (length x) behind second) in
    let cg : chars gap ≡ g.0 = sym (chars_from_encodes g.0 gap ug g.1) in
    let cx : chars x ≡ n.0 = sym (chars_from_encodes n.0 x ux n.1) in
    let all : chars bs ≡ g.0 ++ (n.0 ++ chars r) =
    ap chars e ∙ chars-append gap (x ++ r) ug ∙ ap (λ (l : List ℕ). l ++ chars (x ++ r)) cg ∙ ap (λ (l : List ℕ). g.0 ++ l) (chars-append x r ux ∙ ap (λ (l : List ℕ). l ++ chars r) cx) in
    let some : 0 < length n.0 = some_chars n.0 (subst (λ (l : List ℕ). 0 < length l) (sym n.1) l) in
    let after : (parts : List (List ℕ)) × (slice_split is_whitespace (chars r) ≡ [] ∷ parts) = parts_after r more ur h in
    let found : char_words (chars bs) ≡ n.0 ∷ char_words (chars r) =
    ap char_words all ∙ char_words_past g.0 (n.0 ++ chars r) g.2 ∙ first_word n.0 (chars r) after.0 n.2 some after.1 in
    (ur, ap (map encode_utf8_all) found ∙ ap (λ (t : List ℕ). t ∷ words r) n.1)

-- no word is left
pub word_end : (bs : List ℕ) → IsUtf8 bs → NoCharPasses is_not_whitespace bs → words bs ≡ []
word_end bs u g =
    let all : chars bs ≡ g.0 ++ [] = sym (chars_from_encodes g.0 bs u g.1) ∙ sym (append-nil g.0) in
    ap (λ (cs : List ℕ). map encode_utf8_all (char_words cs)) all ∙ ap (map encode_utf8_all) (char_words_past g.0 [] g.2)
