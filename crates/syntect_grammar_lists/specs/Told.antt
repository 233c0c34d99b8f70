-- What a flat list tells of its patterns.
use Rattle.std.specs.Prelude.{not, ◌&&◌, ◌≡◌, ◌==◌, ◌<◌, ◌+◌, ◌*◌, ◌/◌, ◌%◌, ℕ, zero, suc, Bool, true, false, List, [], ◌∷◌, length, map, slice_index_or, if◌then◌else◌}
use Rattle.syntect_grammar_lists.specs.syntect_pattern_table.Starts.{is_in}
use Rattle.syntect_grammar_lists.specs.syntect_pattern_table.declared.starts.Places.{Places}
use Rattle.syntect_grammar_lists.specs.Packed.{unpacked}
use Rattle.syntect_grammar_lists.specs.Rows.{BeginIn, IsTabled, bit_of}
use Rattle.syntect_grammar_lists.specs.Sides.{edges_row, first_row, lines_row}
use Rattle.syntect_grammar_lists.specs.Slims.{widened}
use Rattle.syntect_grammar_lists.specs.declared.flats.Flat.{Flat}
use Rattle.syntect_grammar_lists.specs.declared.flats.Origin.{Origin}
use Rattle.syntect_grammar_lists.specs.declared.forms.Form.{Form}
use Rattle.syntect_grammar_lists.specs.declared.forms.Table.{Table}
use Rattle.syntect_grammar_lists.specs.declared.sides.Side.{Side}
use Rattle.syntect_grammar_lists.specs.declared.spots.Spot.{Spot}

-- ---- less exact ----

-- all that can stand there by the first can by the second
abbrev pub HoldsMore : Places → Places → Type 0
HoldsMore old new = (x : ℕ) → is_in new x ≡ false → is_in old x ≡ false

-- the same pattern, of which the second may tell less
pub record IsCoarser (old new : Flat) : Type 0 where
  pub context : new.context ≡ old.context
  pub index : new.index ≡ old.index
  pub has_captures : new.has_captures ≡ old.has_captures
  pub begins : HoldsMore old.begins new.begins
  pub words : HoldsMore old.words new.words
  pub blanks : HoldsMore old.blanks new.blanks
  pub at_edges : new.at_edges ≡ true → old.at_edges ≡ true
  pub at_lines : new.at_lines ≡ true → old.at_lines ≡ true

-- the same patterns, of each of which the second list may tell less
pub record AreCoarser (old new : List Flat) : Type 0 where
  pub count : length new ≡ length old
  pub each : (k : ℕ) (d : Flat) → k < length old
      → IsCoarser (slice_index_or old k d) (slice_index_or new k d)

-- ---- what a table tells ----

-- the number of so many bits that has those set where this holds
unfoldable pub bits_where : (ℕ → Bool) → ℕ → ℕ
bits_where holds zero = 0
bits_where holds (suc count) =
    (if holds 0 then 1 else 0) + 2 * bits_where (λ x. holds (suc x)) count

-- what can stand there, where this holds
abbrev pub places_where : (ℕ → Bool) → Places
places_where holds = record { ascii = bits_where holds 128; wide = holds 128; end = holds 129 }

-- whether the bit of the pattern of an index is set in the row of what stands on a side
abbrev pub is_told : Side → List ℕ → ℕ → ℕ → ℕ → Bool
is_told side rows words index x = bit_of rows words (first_row side + x) index

-- whether there are, by that number
abbrev pub has_captures_in : ℕ → Bool
has_captures_in entry = entry % 2 == 1

-- what rows, and what all patterns begin with, tell of the pattern of an index
abbrev pub told_at : Places → List ℕ → ℕ → ℕ → Spot → Flat
told_at any rows words index spot = record {
  begins = places_where (λ x. is_in any x && is_told Side.Here rows words index x);
  words = places_where (is_told Side.Word rows words index);
  blanks = places_where (is_told Side.Blank rows words index);
  at_edges = not (bit_of rows words edges_row index);
  at_lines = not (bit_of rows words lines_row index);
  context = record { syntax_index = spot.syntax; context_index = spot.context };
  index = spot.entry / 2;
  has_captures = has_captures_in spot.entry;
}

-- what they tell of the patterns from an index on
abbrev pub told_from : Places → List ℕ → ℕ → ℕ → List Spot → List Flat
told_from any rows words index [] = []
told_from any rows words index (spot ∷ spots) =
    told_at any rows words index spot ∷ told_from any rows words (suc index) spots

-- what a table, and what all patterns begin with, tell of its patterns
abbrev pub told_by : Places → Table → List Flat
told_by any table = told_from any (unpacked table.words table.rows) table.words 0 table.spots.items

-- ---- how a list is kept ----

-- what can stand there, by its parts
abbrev pub places_of : ℕ → Bool → Bool → Places
places_of ascii wide end = record { ascii = ascii; wide = wide; end = end }

-- the patterns that are kept so, where all of them begin with some of this
abbrev pub flats_in : Places → Form → List Flat
flats_in any (Form.Plain slims places) = map (widened places.items) slims.items
flats_in any (Form.Tabled table) = told_by any table.value

-- ---- What invariants alone rest on ----

-- the table tells of its patterns, if there is one
abbrev pub HasTable : Form → List Flat → Type 0
HasTable (Form.Plain slims places) flats = Unit {0}
HasTable (Form.Tabled table) flats = IsTabled table.value.rows table.value.words flats

-- there are so many patterns that are kept so, each of which begins with some of this alone, and
-- what a table tells is of them
pub record IsKept (any : Places) (form : Form) (count : ℕ) : Type 0 where
  pub counted : count ≡ length (flats_in any form)
  pub any_begins : BeginIn any (flats_in any form)
  pub tabled : HasTable form (flats_in any form)

-- ---- For proofs and private functions alone ----

-- twice an index, and one more if there are back references
abbrev pub entry_of : ℕ → Bool → ℕ
entry_of index has_captures = index * 2 + (if has_captures then 1 else 0)

-- a pattern without what a table tells of it
abbrev pub spot_of : Flat → Spot
spot_of flat =
    record {
      syntax = flat.context.syntax_index;
      context = flat.context.context_index;
      entry = entry_of flat.index flat.has_captures;
    }

-- where the pattern of a spot stands
abbrev pub spot_origin : Spot → Origin
spot_origin spot =
    record {
      context = record { syntax_index = spot.syntax; context_index = spot.context };
      index = spot.entry / 2;
    }

-- these patterns are kept so, of each of which less may be known, whatever they all begin with
abbrev pub KeepsAll : List Flat → Form → Type 0
KeepsAll flats form = (any : Places) → BeginIn any flats
    → IsKept any form (length flats) × AreCoarser flats (flats_in any form)
