-- Which patterns of a flat list can begin at a place, as far as is seen there.
use Rattle.std.specs.Prelude.{◌≡◌, ◌==◌, ◌<◌, ◌≤◌, ◌+◌, ◌*◌, ◌/◌, ◌%◌, ◌⊎◌, ℕ, Bool, true, false, List, length, slice_index_or, if◌then◌else◌}
use Rattle.std.specs.Int.{bit_at}
use Rattle.syntect_grammar_lists.specs.syntect_pattern_table.Starts.{is_in}
use Rattle.syntect_grammar_lists.specs.syntect_pattern_table.declared.starts.Places.{Places}
use Rattle.syntect_grammar_lists.specs.Packed.{IsPacked, unpacked}
use Rattle.syntect_grammar_lists.specs.Sides.{edges_row, first_row, lines_row, places_on}
use Rattle.syntect_grammar_lists.specs.declared.flats.Flat.{Flat}
use Rattle.syntect_grammar_lists.specs.declared.flats.Outlook.{Outlook}
use Rattle.syntect_grammar_lists.specs.declared.packed.Packed.{Packed}
use Rattle.syntect_grammar_lists.specs.declared.sides.Side.{Side}

-- what can come after white space, or else after a word, in which a match of the pattern begins
abbrev pub behind_of : Bool → Flat → Places
behind_of blank flat = if blank then flat.blanks else flat.words

-- the pattern has no match that begins where this is seen after the run,
-- or where no word begins or ends, or no line begins
abbrev pub IsCut : Outlook → Flat → Type 0
IsCut o flat = (is_in (behind_of o.blank flat) o.behind ≡ false)
    ⊎ (((o.off_edges ≡ true) × (flat.at_edges ≡ true))
    ⊎ ((o.off_lines ≡ true) × (flat.at_lines ≡ true)))

-- no match of the pattern begins where this is seen
abbrev pub IsOut : Outlook → Flat → Type 0
IsOut o flat = (is_in flat.begins o.here ≡ false) ⊎ IsCut o flat

-- the bit of the word at the place is set, or there is no such word
abbrev pub has_bit : List ℕ → ℕ → ℕ → Bool
has_bit rows place bit = bit_at (slice_index_or rows place 18446744073709551615) bit == 1

-- the bit of a pattern in the row of the number, where each row has so many words of 64 bits
abbrev pub bit_of : List ℕ → ℕ → ℕ → ℕ → Bool
bit_of rows words row index = has_bit rows (row * words + index / 64) (index % 64)

-- each of these patterns begins with some of this alone
abbrev pub BeginIn : Places → List Flat → Type 0
BeginIn any flats = (x k : ℕ) (d : Flat) → x < 130 → k < length flats
    → is_in any x ≡ false → is_in (slice_index_or flats k d).begins x ≡ false

-- ---- What invariants alone rest on ----

-- each pattern whose matches can begin where this stands on the side has its bit set in
-- the row of that
abbrev pub TellsSide : Side → List ℕ → ℕ → List Flat → Type 0
TellsSide side rows words flats = (x k : ℕ) (d : Flat) → x < 130 → k < length flats
    → is_in (places_on side (slice_index_or flats k d)) x ≡ true
    → bit_of rows words (first_row side + x) k ≡ true

-- each pattern whose matches can begin where no word begins or ends has its bit set in the row of
-- such places
abbrev pub TellsEdges : List ℕ → ℕ → List Flat → Type 0
TellsEdges rows words flats = (k : ℕ) (d : Flat) → k < length flats
    → (slice_index_or flats k d).at_edges ≡ false → bit_of rows words edges_row k ≡ true

-- each pattern whose matches can begin where no line begins has its bit set in the row of such
-- places
abbrev pub TellsLines : List ℕ → ℕ → List Flat → Type 0
TellsLines rows words flats = (k : ℕ) (d : Flat) → k < length flats
    → (slice_index_or flats k d).at_lines ≡ false → bit_of rows words lines_row k ≡ true

-- each pattern whose matches can begin at a place has its bit set in all rows of what is seen there
pub record AreRowsOf (rows : List ℕ) (words : ℕ) (flats : List Flat) : Type 0 where
  pub sides : (side : Side) → TellsSide side rows words flats
  pub edges : TellsEdges rows words flats
  pub lines : TellsLines rows words flats

-- The table tells of the patterns which of them can begin where something is seen.
pub record IsTabled (table : Packed) (words : ℕ) (flats : List Flat) : Type 0 where
  pub rows : AreRowsOf (unpacked words table) words flats
  pub room : length flats ≤ words * 64
  pub whole : IsPacked words table

-- ---- For proofs and private functions alone ----

-- each bit that was set still is
abbrev pub KeepsBits : List ℕ → List ℕ → Type 0
KeepsBits old new = (p b : ℕ) → has_bit old p b ≡ true → has_bit new p b ≡ true

-- the side of what comes after white space or else a word
abbrev pub side_behind : Outlook → Side
side_behind o = if o.blank then Side.Blank else Side.Word

-- the row of what comes after the word or the white space
abbrev pub behind_row : Outlook → ℕ
behind_row o = first_row (side_behind o) + o.behind

-- no pattern of those that the word is of can begin where this is seen, but where its bit is set
abbrev pub TellsAlive : List ℕ → ℕ → Outlook → ℕ → ℕ → Type 0
TellsAlive rows words o word alive = (flats : List Flat) (i : ℕ) (d : Flat)
    → AreRowsOf rows words flats → i < 64 → word * 64 + i < length flats
    → bit_at alive i ≡ 0 → IsOut o (slice_index_or flats (word * 64 + i) d)
