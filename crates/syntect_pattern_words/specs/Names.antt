-- Tables of names.
use Rattle.std.specs.Prelude.{ℕ, List, [], ◌∷◌, Option, Some, None, if◌then◌else◌, nat_eq}
use lib.Pointwise.{pointwise}
use Rattle.syntect_pattern.specs.Reading.{Text}
use Rattle.syntect_pattern.specs.declared.named.Named.{Named}

-- ---- For proofs and private functions alone ----

-- the entry of the name
abbrev pub entry_named : List (List ℕ × Named) → Text → Option Named
entry_named [] t = None
entry_named (e ∷ rest) t = if pointwise nat_eq t e.0 then Some e.1 else entry_named rest t
