-- Runs of bytes end where a character does.
use Rattle.std.proofs.Common.{◌≡◌, ℕ, zero, suc, ◌<◌, ◌≤◌, Bool, true, false, List, length, get_or, drop, IsUtf8, subst, inl, inr, arith, le_refl, add-one, add-zero, get_or-drop, length-drop}
use Rattle.std.proofs.lemmas.Bool.{cases_lt}
use Rattle.std.proofs.lemmas.Bool.Decides.{nat_tests}
use Rattle.std.proofs.lemmas.List.{get_or_past}
use Rattle.std.proofs.lemmas.List.Sums.{prefix_len-le-length, prefix_len_passes, prefix_len_stops}
use Rattle.std.proofs.lemmas.Str.{IsCharBoundary-start, IsCharBoundary-end, IsCharBoundary-before_ascii, IsCharBoundary-after_ascii}
use Rattle.std.specs.List.{prefix_len}
use Rattle.std.specs.Str.{IsCharBoundary}
use Rattle.syntect_yaml.specs.declared.text.Class.{Class}
use Rattle.syntect_yaml.specs.declared.text.Class.TheVariants.{Space, White, InLine, Single, Double, Hex}
use Rattle.syntect_yaml.specs.Lines.{is_space, is_white, is_in_line}
use Rattle.syntect_yaml.specs.Scalars.{is_single, is_double, is_hex}
use Rattle.syntect_yaml.specs.Text.{class_test}

-- a byte that is not 0 stands inside the text
pub inside : (xs : List ℕ) (i : ℕ) → 0 < get_or xs i 0 → i < length xs
inside xs i h = elim (cases_lt i (length xs)) [ inl within ↦ within | inr past ↦ absurd (omega (arith, get_or_past xs i 0 past)) ]

-- a front of a run of ASCII bytes
pub front_boundary : (p : ℕ → Bool) → ((c : ℕ) → p c ≡ true → c < 128) → (n : ℕ) (bs : List ℕ) → IsUtf8 bs → n ≤ prefix_len p bs → IsCharBoundary bs n
front_boundary p ascii zero bs utf8 h = IsCharBoundary-start bs utf8
front_boundary p ascii (suc k) bs utf8 h =
    rw (← add-one) (IsCharBoundary-after_ascii bs k utf8 (omega (arith, prefix_len-le-length p bs)) (ascii _ (prefix_len_passes p bs k 0 (omega arith))))

-- what stops a run does not pass
pub run_stops : (p : ℕ → Bool) (bs : List ℕ) → 0 < length (drop (prefix_len p bs) bs) → p (get_or (drop (prefix_len p bs) bs) 0 0) ≡ false
run_stops p bs more =
    elim (cases_lt (prefix_len p bs) (length bs)) [
      | inl within ↦ rw (get_or-drop (prefix_len p bs) bs 0 0, add-zero) (prefix_len_stops p bs 0 within)
      | inr past ↦ absurd (omega (arith, length-drop (prefix_len p bs) bs))
    ]

-- a run that only an ASCII byte stops
before_ascii : (p : ℕ → Bool) (bs : List ℕ) → ((c : ℕ) → p c ≡ false → c < 128) → IsCharBoundary bs (prefix_len p bs)
before_ascii p bs ascii =
    elim (cases_lt (prefix_len p bs) (length bs)) [
      | inl within ↦ IsCharBoundary-before_ascii bs _ within (ascii _ (prefix_len_stops p bs 0 within))
      | inr past ↦ subst (IsCharBoundary bs) (omega (arith, prefix_len-le-length p bs)) (IsCharBoundary-end bs)
    ]

pub spaces_boundary : (n : ℕ) (bs : List ℕ) → IsUtf8 bs → n ≤ prefix_len is_space bs → IsCharBoundary bs n
spaces_boundary n bs utf8 h = front_boundary is_space (λ c e. grind (arith, nat_tests)) n bs utf8 h

pub run_boundary : (class : Class) (bs : List ℕ) → IsUtf8 bs → IsCharBoundary bs (prefix_len (class_test class) bs)
run_boundary Space bs utf8 = spaces_boundary _ bs utf8 (le_refl _)
run_boundary White bs utf8 = front_boundary is_white (λ c e. grind (arith, nat_tests)) _ bs utf8 (le_refl _)
run_boundary InLine bs utf8 = before_ascii is_in_line bs (λ c e. grind (arith, nat_tests))
run_boundary Single bs utf8 = before_ascii is_single bs (λ c e. grind (arith, nat_tests))
run_boundary Double bs utf8 = before_ascii is_double bs (λ c e. grind (arith, nat_tests))
run_boundary Hex bs utf8 = front_boundary is_hex (λ c e. grind (arith, nat_tests)) _ bs utf8 (le_refl _)
