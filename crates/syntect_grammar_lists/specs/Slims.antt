-- Patterns whose places stand in a table.
use Rattle.std.specs.Prelude.{◌≡◌, ℕ, false, List, Some, slice_get, slice_index_or}
use Rattle.syntect_grammar_lists.specs.syntect_pattern_table.declared.starts.Places.{Places}
use Rattle.syntect_grammar_lists.specs.declared.flats.Flat.{Flat}
use Rattle.syntect_grammar_lists.specs.declared.flats.Origin.{Origin}
use Rattle.syntect_grammar_lists.specs.declared.slims.Slim.{Slim}

-- where the pattern stands
abbrev pub origin_of : Flat → Origin
origin_of flat = record { context = flat.context; index = flat.index }

-- what is taken to stand at a number past a table's end
abbrev pub nothing : Places
nothing = record { ascii = 0; wide = false; end = false }

-- what stands in a table at a number
abbrev pub places_at : List Places → ℕ → Places
places_at table number = slice_index_or table number nothing

-- the pattern that is kept so
abbrev pub widened : List Places → Slim → Flat
widened table slim = record {
  begins = places_at table slim.begins;
  words = places_at table slim.words;
  blanks = places_at table slim.blanks;
  at_edges = slim.at_edges;
  at_lines = slim.at_lines;
  context = record { syntax_index = slim.syntax; context_index = slim.context };
  index = slim.index;
  has_captures = slim.has_captures;
}

-- ---- For proofs and private functions alone ----

-- the pattern is kept so, and its places stand in the table
pub record IsSlimOf (table : List Places) (flat : Flat) (slim : Slim) : Type 0 where
  pub begins : slice_get table slim.begins ≡ Some flat.begins
  pub words : slice_get table slim.words ≡ Some flat.words
  pub blanks : slice_get table slim.blanks ≡ Some flat.blanks
  pub at_edges : slim.at_edges ≡ flat.at_edges
  pub at_lines : slim.at_lines ≡ flat.at_lines
  pub syntax : slim.syntax ≡ flat.context.syntax_index
  pub context : slim.context ≡ flat.context.context_index
  pub index : slim.index ≡ flat.index
  pub has_captures : slim.has_captures ≡ flat.has_captures
