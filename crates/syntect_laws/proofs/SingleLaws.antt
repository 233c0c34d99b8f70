-- Texts in single quotes are read back.
use Rattle.std.proofs.Common.{◌≡◌, ℕ, zero, suc, ◌<◌, ◌==◌, true, false, not, cond, List, [], ◌∷◌, ◌++◌, length, drop, Some, None, refl, sym, ap, ◌∙◌, inl, inr, arith, one-add, append_assoc, flat_map}
use Rattle.std.specs.Prelude.{slice_index}
use Rattle.std.proofs.lemmas.Bool.{cases_Bool, and_parts}
use Rattle.std.proofs.lemmas.Bool.Decides.{nat_tests}
use Rattle.syntect_yaml.specs.Lines.{Rest, Read, first, split_run}
use Rattle.syntect_yaml.specs.Scalars.{prepend, is_single, single}
use Rattle.syntect_yaml.proofs.QuotedLaws.{prepend-prepend}
use Rattle.syntect_laws.specs.YamlTexts.{is_control, is_printable, single_byte_text}

-- what a run of bytes and what follows it give
abbrev piece : ℕ → List ℕ → Rest → Read (List ℕ)
piece m front u =
    cond (first u == 39) (cond (slice_index u 1 == 39) (prepend (front ++ (39 ∷ [])) (single m (drop 2 u))) (Some (front, drop 1 u))) None

piece_onto : (m c : ℕ) (front : List ℕ) (u : Rest) → piece m (c ∷ front) u ≡ prepend (c ∷ []) (piece m front u)
piece_onto m c front u =
    elim (cases_Bool (first u == 39)) [
      | inl quote ↦ elim (cases_Bool (slice_index u 1 == 39)) [
        | inl two ↦ rw (quote, two) (sym (prepend-prepend (c ∷ []) (front ++ (39 ∷ [])) (single m (drop 2 u))))
        | inr one ↦ rw (quote, one)
      ]
      | inr other ↦ rw other
    ]

single_piece : (m : ℕ) (t : Rest) → single (suc m) t ≡ piece m (split_run is_single t).0 (split_run is_single t).1
unfolding single
single_piece m t = elim (cases_Bool (first (split_run is_single t).1 == 39)) [ inl quote ↦ rw quote | inr other ↦ rw other ]

-- a byte that stands for itself
pass : (n c : ℕ) (t : Rest) → is_single c ≡ true → single n (c ∷ t) ≡ prepend (c ∷ []) (single n t)
unfolding single
pass zero c t e = refl
pass (suc m) c t e = single_piece m (c ∷ t) ∙ rw (e, one-add) (piece_onto m c (split_run is_single t).0 (split_run is_single t).1) ∙ sym (ap (prepend (c ∷ [])) (single_piece m t))

-- a quote stands twice
twice : (m : ℕ) (t : Rest) → single (suc m) (39 ∷ 39 ∷ t) ≡ prepend (39 ∷ []) (single m t)
unfolding single
twice m t = refl

byte_read : (m c : ℕ) (s u t : List ℕ) → not (is_control c) ≡ true → single m u ≡ Some (s, t) → single (suc m) u ≡ Some (s, t) → single (suc m) (single_byte_text c ++ u) ≡ Some (c ∷ s, t)
byte_read m c s u t h f g =
    elim (cases_Bool (c == 39)) [
      | inl quote ↦ let is : c ≡ 39 = grind (arith, nat_tests) in rw is (twice m u ∙ rw f)
      | inr other ↦ let itself : is_single c ≡ true = grind (arith, nat_tests) in rw other (pass (suc m) c u itself ∙ rw g)
    ]

pub single_read : (s : List ℕ) (n : ℕ) (t : Rest) → is_printable s ≡ true → (first t == 39) ≡ false → length s < n → single n (flat_map single_byte_text s ++ (39 ∷ t)) ≡ Some (s, t)
unfolding single
single_read s zero t h e room = absurd (omega arith)
single_read [] (suc m) t h e room = rw e
single_read (c ∷ s) (suc m) t h e room =
    let parts = and_parts (not (is_control c)) (is_printable s) h in
    rw (append_assoc (single_byte_text c) (flat_map single_byte_text s) (39 ∷ t))
    (byte_read m c s (flat_map single_byte_text s ++ (39 ∷ t)) t parts.0 (single_read s m t parts.1 e (omega arith)) (single_read s (suc m) t parts.1 e (omega arith)))
