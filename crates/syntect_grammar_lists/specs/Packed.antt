-- Rows of words, of which those that are equal are kept once.
use Rattle.std.specs.Prelude.{◌≡◌, ◌≤◌, ◌+◌, ◌*◌, ℕ, List, length, take, drop}
use Rattle.std.specs.List.{All, flat_map}
use Rattle.syntect_grammar_lists.specs.declared.packed.Packed.{Packed}

-- the row of a number
abbrev pub row_at : ℕ → List ℕ → ℕ → List ℕ
row_at words bits number = take words (drop (number * words) bits)

-- all rows, one after the other
abbrev pub unpacked : ℕ → Packed → List ℕ
unpacked words table = flat_map (row_at words table.bits.items) table.numbers.items

-- ---- What invariants alone rest on ----

-- each row is whole
abbrev pub IsPacked : ℕ → Packed → Type 0
IsPacked words table =
    All (λ number. number * words + words ≤ length table.bits.items) table.numbers.items

-- ---- For proofs and private functions alone ----

-- this is the row of the number, and whole
abbrev pub IsRow : ℕ → List ℕ → List ℕ → ℕ → Type 0
IsRow words bits row number =
    (number * words + words ≤ length bits) × (row_at words bits number ≡ row)
