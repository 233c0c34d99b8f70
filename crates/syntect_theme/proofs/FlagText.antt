-- The debug text of flags, part by part.
use Rattle.std.proofs.Common.{◌≡◌, ℕ, ◌==◌, Bool, true, false, ◌&&◌, not, List, [], ◌∷◌, ◌++◌, refl, sym, arith}
use Rattle.std.proofs.lemmas.Bool.Decides.{nat_tests}
use Rattle.std.proofs.lemmas.Grind.{put_four}
use Rattle.std.specs.Prelude.{codes, if◌then◌else◌, ◌↔◌, IsTrue, bit_and}
use Rattle.std.specs.Fmt.{digits, IsPlainFormatter, HasWritten}
use Rattle.std.specs.declared.fmt.Formatter.{Formatter}
use Rattle.syntect_theme.specs.Flags.{all_bits, bits_without, given, between_bars, part_text, rest_text, flags, flags_text}
use mathlib.Core.List.{append-nil}

-- the last part
abbrev last : Bool → Bool → List ℕ → List ℕ
last is_first is_nought text = if is_nought then (if is_first then codes "(empty)" else []) else part_text is_first true text

pub joined : (p q r z : Bool) (h : List ℕ)
    → part_text true p (codes "BOLD") ++ (part_text (not p) q (codes "UNDERLINE") ++ (part_text (not p && not q) r (codes "ITALIC") ++ last ((not p && not q) && not r) z h))
    ≡ between_bars (given p (codes "BOLD") ++ (given q (codes "UNDERLINE") ++ (given r (codes "ITALIC") ++ (if z then [] else h ∷ []))))
joined true true true true h = refl
joined true true false true h = refl
joined true false true true h = refl
joined true false false true h = refl
joined false true true true h = refl
joined false true false true h = refl
joined false false true true h = refl
joined false false false true h = refl
joined true true true false h = rw (append-nil h) refl
joined true true false false h = rw (append-nil h) refl
joined true false true false h = rw (append-nil h) refl
joined true false false false h = rw (append-nil h) refl
joined false true true false h = rw (append-nil h) refl
joined false true false false h = rw (append-nil h) refl
joined false false true false h = rw (append-nil h) refl
joined false false false false h = rw (append-nil h) refl

told : (p : Bool) (a b : ℕ) → (IsTrue p ↔ (a ≡ b)) → p ≡ (a == b)
told p a b h = grind (arith, nat_tests, h)

-- the four parts, one after another, are the text
pub flags_written : {W : Type 0} (took : W → List ℕ → W → Type 0) (f g h i j : Formatter W) (bits others : ℕ) (p q r second third fourth : Bool)
    → (IsTrue p ↔ (bit_and bits 1 ≡ 1)) → (IsTrue q ↔ (bit_and bits 2 ≡ 2)) → (IsTrue r ↔ (bit_and bits 4 ≡ 4))
    → second ≡ (true && not p) → third ≡ (second && not q) → fourth ≡ (third && not r)
    → (IsPlainFormatter f → HasWritten took f (part_text true p (codes "BOLD")) g)
    → (IsPlainFormatter g → HasWritten took g (part_text second q (codes "UNDERLINE")) h)
    → (IsPlainFormatter h → HasWritten took h (part_text third r (codes "ITALIC")) i)
    → (IsPlainFormatter i → HasWritten took i (rest_text fourth others) j)
    → others ≡ bits_without bits all_bits
    → IsPlainFormatter f → HasWritten took f (flags_text (flags bits)) j
flags_written took f g h i j bits others p q r second third fourth ep eq er es et eu wp wq wr wo eo plain =
    let a = wp plain in
    let b = wq a.plain in
    let c = wr b.plain in
    let d = wo c.plain in
    let e : part_text true p (codes "BOLD") ++ (part_text second q (codes "UNDERLINE") ++ (part_text third r (codes "ITALIC") ++ rest_text fourth others)) ≡ flags_text (flags bits) =
    rw (eu, et, es, sym eo, sym (told p _ _ ep), sym (told q _ _ eq), sym (told r _ _ er)) (joined p q r (others == 0) (codes "0x" ++ digits 16 false others)) in
    put_four took f g h i j _ _ _ _ _ a b c d e
