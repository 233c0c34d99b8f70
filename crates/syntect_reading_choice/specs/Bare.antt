-- Levels without prototypes.
use Rattle.std.specs.Prelude.{◌≡◌, ◌<◌, ℕ, List, [], length, slice_index_or}
use Rattle.syntect_reading_choice.specs.declared.level.Level.{Level}

-- so many of the lowest levels have no prototypes, as far as there are so many
abbrev pub AreBare : ℕ → List Level → Type 0
AreBare count levels = (k : ℕ) (d : Level) → k < count → k < length levels
    → (slice_index_or levels k d).prototypes ≡ []
