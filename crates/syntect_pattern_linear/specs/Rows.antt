-- Where the whole match ends, from each cell and each place.
use Rattle.std.specs.Prelude.{◌≡◌, ℕ, ◌-◌, ◌<◌, List, [], length, Option, Some, None, slice_index_or, IsCharBoundary}
use Rattle.syntect_pattern_linear.specs.syntect_pattern.Trees.{Tree}
use Rattle.syntect_pattern_plan.specs.Cells.{ends}
use Rattle.syntect_pattern_plan.specs.declared.cells.Cell.{Cell}

-- the end that a row has for a cell
abbrev pub row_end : List (List (Option ℕ)) → ℕ → ℕ → Option ℕ
row_end rows row k = slice_index_or (slice_index_or rows row []) k None

module _ (s : List ℕ) (ts : List Tree) where
  -- the rows, from that of the text's end on, have where the whole match ends
  abbrev pub AreRows : List Cell → List (List (Option ℕ)) → Type 0
  AreRows cells rows =
      (q k : ℕ) → length s - q < length rows → IsCharBoundary s q → k < length cells
      → row_end rows (length s - q) k ≡ ends s ts cells k q

  -- what is known of a place is so
  abbrev pub AreKnown : List Cell → ℕ → List (Option (Option ℕ)) → Type 0
  AreKnown cells place now =
      (k : ℕ) (o : Option ℕ) → slice_index_or now k None ≡ Some o → o ≡ ends s ts cells k place
