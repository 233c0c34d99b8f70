-- The deepest place, one scope further.
use Rattle.std.proofs.Common.{◌≡◌, ℕ, zero, suc, ◌+◌, ◌<◌, List, [], ◌∷◌, length, take, get_or, refl, arith, Some, true, false, ap}
use Rattle.syntect_style.specs.syntect_scope.Atoms.{is_prefix}
use Rattle.syntect_style.specs.Candidates.{deepest, further}

one_more : (n : ℕ) → n + 1 ≡ suc n
one_more n = omega arith

pub deepest_hit : (s : List ℕ) (ts : List (List ℕ)) (i : ℕ) (t d : List ℕ) → i < length ts → t ≡ get_or ts i d → is_prefix s t ≡ true → Some i ≡ deepest s (take (i + 1) ts)
deepest_hit s [] i t d l e h = absurd (omega arith)
deepest_hit s (x ∷ ts) zero t d l e h = rw (← e, h) refl
deepest_hit s (x ∷ ts) (suc i) t d l e h =
    rw (one_more (suc i)) (ap (further (is_prefix s x)) (rw (one_more i) at (deepest_hit s ts i t d (omega arith) e h)))

pub deepest_miss : (s : List ℕ) (ts : List (List ℕ)) (i : ℕ) (t d : List ℕ) → i < length ts → t ≡ get_or ts i d → is_prefix s t ≡ false → deepest s (take (i + 1) ts) ≡ deepest s (take i ts)
deepest_miss s [] i t d l e h = absurd (omega arith)
deepest_miss s (x ∷ ts) zero t d l e h = rw (← e, h) refl
deepest_miss s (x ∷ ts) (suc i) t d l e h =
    rw (one_more (suc i)) (ap (further (is_prefix s x)) (rw (one_more i) at (deepest_miss s ts i t d (omega arith) e h)))
