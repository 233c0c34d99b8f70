-- Lines before the node, and a byte order mark.
use Rattle.std.proofs.Common.{◌≡◌, ℕ, zero, suc, ◌-◌, ◌<◌, Bool, true, false, ◌==◌, ◌&&◌, cond, List, [], ◌∷◌, length, IsUtf8, Some, None, refl, arith}
use Rattle.std.proofs.lemmas.Bool.{false≢true}
use Rattle.std.proofs.lemmas.Bool.Decides.{nat_tests}
use Rattle.std.proofs.lemmas.Str.{IsCharBoundary-past_char}
use Rattle.std.specs.Prelude.{slice_index}
use Rattle.std.specs.Str.{IsCharBoundary}
use lib.Utf8.{encode}
use Rattle.syntect_yaml.proofs.RunLaws.{inside}
use Rattle.syntect_yaml.specs.Lines.{Rest, Cursor, first, after_line, seek, unmarked, next}
use Rattle.syntect_yaml.specs.Yaml.{heading, begin}
use Rattle.syntect_yaml.specs.declared.read.Heading.TheVariants.{Directive, Start, Body}

pub begin_lost : (m : ℕ) (directed : Bool) (t : Rest) → 0 < m → seek (suc (length t)) t ≡ None → begin m directed t ≡ None
unfolding begin
begin_lost zero directed t room e = absurd (omega arith)
begin_lost (suc m) directed t room e = rw e

pub begin_directive : (m : ℕ) (directed : Bool) (t : Rest) (p : Cursor) → 0 < m → seek (suc (length t)) t ≡ Some p → heading p ≡ Directive → begin m directed t ≡ begin (m - 1) true (after_line p.rest)
unfolding begin
begin_directive zero directed t p room e f = absurd (omega arith)
begin_directive (suc m) directed t p room e f = let less : suc m - 1 ≡ m = omega arith in rw (e, f, less)

pub begin_start : (m : ℕ) (directed : Bool) (t : Rest) (p : Cursor) → 0 < m → seek (suc (length t)) t ≡ Some p → heading p ≡ Start → begin m directed t ≡ next (after_line p.rest)
unfolding begin
begin_start zero directed t p room e f = absurd (omega arith)
begin_start (suc m) directed t p room e f = rw (e, f)

pub begin_body : (m : ℕ) (t : Rest) (p : Cursor) → 0 < m → seek (suc (length t)) t ≡ Some p → heading p ≡ Body → begin m false t ≡ unmarked p
unfolding begin
begin_body zero t p room e f = absurd (omega arith)
begin_body (suc m) t p room e f = rw (e, f)

pub begin_nothing : (m : ℕ) (t : Rest) (p : Cursor) → 0 < m → seek (suc (length t)) t ≡ Some p → heading p ≡ Body → begin m true t ≡ None
unfolding begin
begin_nothing zero t p room e f = absurd (omega arith)
begin_nothing (suc m) t p room e f = rw (e, f)

picked : (a b : Bool) → cond a Directive (cond b Start Body) ≡ Directive → a ≡ true
picked true b e = refl
picked false true e = absurd (grind arith)
picked false false e = absurd (grind arith)

-- a line that begins with `%` has a character
pub directive_some : (p : Cursor) → heading p ≡ Directive → 0 < length p.rest
directive_some p e =
    let test : (p.column == 0 && first p.rest == 37) ≡ true = picked _ _ e in
    let percent : 0 < first p.rest = grind (arith, nat_tests) in
    inside p.rest 0 percent

-- a byte order mark is one character
pub mark_boundary : (s : List ℕ) → IsUtf8 s → ((first s == 0xEF && slice_index s 1 == 0xBB) && slice_index s 2 == 0xBF) ≡ true → IsCharBoundary s 3
unfolding encode
mark_boundary [] utf8 h = absurd (false≢true h)
mark_boundary (a ∷ []) utf8 h = absurd (grind (arith, nat_tests))
mark_boundary (a ∷ b ∷ []) utf8 h = absurd (grind (arith, nat_tests))
mark_boundary (a ∷ b ∷ c ∷ rest) utf8 h =
    let x : a ≡ 0xEF = grind (arith, nat_tests) in
    let y : b ≡ 0xBB = grind (arith, nat_tests) in
    let z : c ≡ 0xBF = grind (arith, nat_tests) in
    IsCharBoundary-past_char (a ∷ b ∷ c ∷ rest) rest 0 0xFEFF (omega arith) utf8 (rw (x, y, z))
