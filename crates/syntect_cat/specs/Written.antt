-- What a writer was given.
use Rattle.std.specs.Prelude.{ℕ, List, take, Option}
use Rattle.std.specs.Io.KnownBytes.{Appends}

-- ---- For proofs and private functions alone ----

-- these bytes were begun: some of the first, perhaps none and perhaps all, were written, and
-- nothing else
abbrev pub Begins : Option (List ℕ) → Option (List ℕ) → List ℕ → Type 0
Begins old new bytes = (n : ℕ) × Appends old new (take n bytes)
