-- One pass over a stack that finds a path.
use Rattle.std.specs.Prelude.{ℕ, suc, ◌+◌, ◌*◌, ◌^◌, Bool, true, false, List, [], ◌∷◌, length, if◌then◌else◌, Option, Some, None}
use Rattle.std.specs.Option.{option_map}
use Rattle.syntect_scope.specs.Atoms.{is_prefix}

-- ---- For proofs and private functions alone ----

-- each scope of the path at the first place after the one before it
abbrev pub greedy : List (List ℕ) → List (List ℕ) → ℕ → Option (List ℕ)
greedy [] stack at = Some []
greedy (s ∷ path) [] at = None
greedy (s ∷ path) (t ∷ stack) at =
    if is_prefix s t then option_map (λ ps. at ∷ ps) (greedy path stack (suc at)) else greedy (s ∷ path) stack (suc at)

-- the score of that pass
abbrev pub greedy_score : List (List ℕ) → List (List ℕ) → ℕ → Option ℕ
greedy_score [] stack at = Some 0
greedy_score (s ∷ path) [] at = None
greedy_score (s ∷ path) (t ∷ stack) at =
    if is_prefix s t then option_map (λ n. length s * 8 ^ at + n) (greedy_score path stack (suc at)) else greedy_score (s ∷ path) stack (suc at)

-- whether that pass goes through
abbrev pub passes : List (List ℕ) → List (List ℕ) → Bool
passes [] stack = true
passes (s ∷ path) [] = false
passes (s ∷ path) (t ∷ stack) = if is_prefix s t then passes path stack else passes (s ∷ path) stack
