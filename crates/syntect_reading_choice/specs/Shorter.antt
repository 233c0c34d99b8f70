-- Parts of a chain that are left out.
use Rattle.std.specs.Prelude.{◌≡◌, ℕ, ◌<◌, ◌≤◌, List, length, slice_index_or}
use Rattle.std.specs.List.{flat_map}
use Rattle.syntect_reading_choice.specs.syntect_grammar.Walk.{FindsSame}
use Rattle.syntect_reading_choice.specs.syntect_grammar.declared.syntax_set.SyntaxSet.{SyntaxSet}
use Rattle.syntect_reading_choice.specs.Parts.{part_members, seen_part}
use Rattle.syntect_reading_choice.specs.declared.chain.Part.{Part}

-- each test finds the same first member of these parts as of all, and they have no more
pub record AreShorter (set : SyntaxSet) (some all : List Part) : Type 0 where
  pub finds : FindsSame (flat_map (part_members set) some) (flat_map (part_members set) all)
  pub few : length (flat_map (part_members set) some) ≤ length (flat_map (part_members set) all)

-- ---- For proofs and private functions alone ----

-- one of the parts stands for the same members
abbrev pub HasSame : List Part → Part → Type 0
HasSame parts part =
    (k : ℕ) × (k < length parts) × (seen_part (slice_index_or parts k part) ≡ seen_part part)
