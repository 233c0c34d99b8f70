-- The substitution of back references.
use Rattle.std.proofs.Common.{◌≡◌, ◌≢◌, subst, ℕ, zero, suc, ◌-◌, ◌<◌, ◌==◌, Bool, true, false, List, [], ◌∷◌, ◌++◌, length, take, drop, Option, Some, None, refl, ap, sym, ◌∙◌, arith, append_assoc, chars, if◌then◌else◌}
use Rattle.std.specs.Prelude.{IsUtf8, encode_utf8, slice_index_or}
use Rattle.std.specs.Option.{option_map_or, option_flatten}
use Rattle.std.specs.List.{slice_get}
use Rattle.std.proofs.lemmas.Bool.Decides.{nat_tests}
use Rattle.std.proofs.lemmas.Str.{chars_past_char, chars-nil}
use Rattle.std.specs.Str.Iter.{chars_rest}
use Rattle.std.specs.declared.str.Chars.{Chars}
use Rattle.syntect_grammar_contexts.specs.Substitution.{Groups, group_text, escape_replacement, substituted_from, AreOnBoundaries}

-- ---- groups ----

pub group_flat : (groups : Groups) (n : ℕ) → slice_index_or groups n None ≡ option_flatten (slice_get groups n)
group_flat [] n = refl
group_flat (g ∷ groups) zero = refl
group_flat (g ∷ groups) (suc n) = group_flat groups n

-- a group that has a position is set to it
pub group_set : (groups : Groups) (n : ℕ) (at : ℕ × ℕ) → slice_index_or groups n None ≡ Some at → slice_get groups n ≡ Some (Some at)
group_set [] n at e = cc
group_set (g ∷ groups) zero at e = ap Some e
group_set (g ∷ groups) (suc n) at e = group_set groups n at e

pub text_unset : (groups : Groups) (line : List ℕ) (n : ℕ) → slice_index_or groups n None ≡ None → group_text groups line n ≡ []
text_unset groups line n e =
    ap (λ (o : Option (ℕ × ℕ)). option_map_or (λ at. take (at.1 - at.0) (drop at.0 line)) o []) (sym (group_flat groups n) ∙ e)

pub text_set : (groups : Groups) (line : List ℕ) (n a b : ℕ) → slice_index_or groups n None ≡ Some (a, b) → group_text groups line n ≡ take (b - a) (drop a line)
text_set groups line n a b e =
    ap (λ (o : Option (ℕ × ℕ)). option_map_or (λ at. take (at.1 - at.0) (drop at.0 line)) o []) (sym (group_flat groups n) ∙ e)

pub text_falls : (groups : Groups) (line : List ℕ) (n a b : ℕ) → slice_index_or groups n None ≡ Some (a, b) → b < a → group_text groups line n ≡ []
text_falls groups line n a b e l =
    let none : b - a ≡ 0 = omega arith in text_set groups line n a b e ∙ ap (λ k. take k (drop a line)) none

-- ---- the characters of a pattern ----

no_bytes : (xs : List ℕ) → length xs ≡ 0 → xs ≡ []
no_bytes [] e = refl
no_bytes (x ∷ xs) e = absurd (omega arith)

module _ (groups : Groups) (line : List ℕ) (x y : Chars) (c : ℕ) (behind : Bool) (out new total : List ℕ) (u : IsUtf8 (chars_rest x))
    (e : chars_rest x ≡ encode_utf8 c ++ chars_rest y) (inv : out ++ substituted_from groups line behind (chars (chars_rest x)) ≡ total) where
  begun : (b : Bool) → behind ≡ b → out ++ substituted_from groups line b (c ∷ chars (chars_rest y)) ≡ total
  begun b h =
      ap (λ (b : Bool). out ++ substituted_from groups line b (c ∷ chars (chars_rest y))) (sym h)
      ∙ ap (λ (cs : List ℕ). out ++ substituted_from groups line behind cs) (sym (chars_past_char (chars_rest x) (chars_rest y) c u e))
      ∙ inv

  -- a backslash stands before the character
  pub past_behind : behind ≡ true → new ≡ out ++ escape_replacement groups line c → new ++ substituted_from groups line false (chars (chars_rest y)) ≡ total
  past_behind h is =
      ap (λ (n : List ℕ). n ++ substituted_from groups line false (chars (chars_rest y))) is
      ∙ append_assoc out (escape_replacement groups line c) (substituted_from groups line false (chars (chars_rest y)))
      ∙ begun true h

  -- none does; the flag says that the character is one
  pub past_plain : (t : Bool) → behind ≡ false → (c == 92) ≡ t → new ≡ out ++ (if t then [] else encode_utf8 c) → new ++ substituted_from groups line t (chars (chars_rest y)) ≡ total
  past_plain t h k is =
      ap (λ (n : List ℕ). n ++ substituted_from groups line t (chars (chars_rest y))) is
      ∙ append_assoc out (if t then [] else encode_utf8 c) (substituted_from groups line t (chars (chars_rest y)))
      ∙ ap (λ (t : Bool). out ++ ((if t then [] else encode_utf8 c) ++ substituted_from groups line t (chars (chars_rest y)))) (sym k)
      ∙ begun false h

-- nothing is left
pub past_all : (groups : Groups) (line : List ℕ) (x : Chars) (behind : Bool) (out total : List ℕ) → length (chars_rest x) ≡ 0
    → out ++ substituted_from groups line behind (chars (chars_rest x)) ≡ total → out ++ (if behind then 92 ∷ [] else []) ≡ total
past_all groups line x behind out total e inv =
    let over : chars (chars_rest x) ≡ [] = ap chars (no_bytes (chars_rest x) e) ∙ chars-nil in
    by behind (ap (λ (cs : List ℕ). out ++ substituted_from groups line behind cs) (sym over) ∙ inv)
  where
    by : (b : Bool) → out ++ substituted_from groups line b [] ≡ total → out ++ (if b then 92 ∷ [] else []) ≡ total
    by true h = h
    by false h = h

pub is_backslash : (c : ℕ) → c ≡ 92 → (c == 92) ≡ true
is_backslash c e = grind (arith, nat_tests)

pub is_other : (c : ℕ) → c ≢ 92 → (c == 92) ≡ false
is_other c e = grind (arith, nat_tests)

-- ---- the same groups in the same text ----

pub boundaries_of_same : (line text : List ℕ) (groups others : Groups) → text ≡ line → others ≡ groups → AreOnBoundaries line groups → AreOnBoundaries text others
boundaries_of_same line text groups others e f h =
    subst (λ (s : List ℕ). AreOnBoundaries s others) (sym e) (subst (λ (g : Groups). AreOnBoundaries line g) (sym f) h)
