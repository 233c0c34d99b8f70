-- What the reader's groups stand for.
use Rattle.std.specs.Prelude.{◌≡◌, ℕ, ◌+◌, Bool, true, List, Option, length, option_map}
use Rattle.syntect_pattern.specs.Trees.{Tree}
use Rattle.syntect_pattern.specs.Escapes.{Escape}
use Rattle.syntect_pattern.specs.Grammar.{Names, Next, on}
use Rattle.syntect_pattern.specs.Grammar as grammar
use Rattle.syntect_pattern_table.specs.Builder.{tree_in}
use Rattle.syntect_pattern_compile.specs.JoinViews.{AllBelow, AreItemsIn, item_trees, trees_in}
use Rattle.syntect_pattern_words.specs.BodyViews.{body_of}
use Rattle.syntect_pattern_words.specs.OpeningViews.{place_as}
use Rattle.syntect_pattern_table.specs.declared.node.Node.{Node}
use Rattle.syntect_pattern_words.specs.declared.openings.Place.{Place}
use Rattle.syntect_pattern_compile.specs.declared.reader.Body.{Body}
use Rattle.syntect_pattern_compile.specs.declared.reader.Reader.{Reader}

-- ---- For proofs and private functions alone ----

-- what is read of a group
abbrev pub body_as : List Node → Body → grammar.Body
body_as nodes b = record { before = trees_in nodes b.before; items = item_trees nodes b.items }

-- its parts are there
pub record IsBodyIn (nodes : List Node) (b : Body) : Type 0 where
  pub before : AllBelow (length nodes) b.before
  pub items : AreItemsIn (length nodes) b.items

-- a group goes on
abbrev pub went_on : Reader → Option (Body × Place) → Option grammar.Step
went_on r found = option_map (λ f. on (body_as r.builder.nodes f.0) (place_as r.names f.1)) found

-- a tree and what follows
abbrev pub tree_as : Reader → Option (ℕ × Place) → Option (Tree × grammar.Cursor)
tree_as r found = option_map (λ f. (tree_in r.builder.nodes f.0, place_as r.names f.1)) found

-- a back reference that was met stays so
abbrev pub StaysMet : Bool → Bool → Type 0
StaysMet before after = before ≡ true → after ≡ true

-- The groups that were known may be taken for these: they are the same,
-- or no back reference was met.
abbrev pub Serves : Bool → Option Names → Option Names → Type 0
Serves refers known these = refers ≡ true → known ≡ these

-- it holds whichever groups the known ones may be taken for
abbrev pub WithGroups : Reader → Option Names → (Option Names → Type 0) → Type 0
WithGroups r known Holds = (groups : Option Names) → Serves r.refers known groups → Holds groups

-- how what stands in a group is read, from the place after its opening
abbrev pub Inner : Type 0
Inner = grammar.Cursor → Option (Tree × grammar.Cursor)

-- the same by the grammar, for a group that stands inside one so deep
abbrev pub inner_of : Option Names → ℕ → Inner
inner_of known depth = body_of known (depth + 1) grammar.empty_body

-- what the grammar reads from the place on, after what is read of the group
module _ (old new : Reader) (body : Body) (place : Place) where
  -- this reading of the grammar goes on to what was found
  abbrev pub ReadsOnTo : (grammar.Body → grammar.Cursor → Option grammar.Step)
      → Option (Body × Place) → Type 0
  ReadsOnTo reading found =
      reading (body_as old.builder.nodes body) (place_as old.names place) ≡ went_on new found

  -- the grammar reads this tree as an item that a quantifier may follow, whatever groups are known
  abbrev pub ReadsItem : Tree → Option (Body × Place) → Type 0
  ReadsItem tree found = (known : Option Names) → ReadsOnTo (λ b p. grammar.item known b tree p) found

  -- the grammar reads this tree as an item that no quantifier may follow, whatever groups are known
  abbrev pub ReadsFirm : Tree → Option (Body × Place) → Type 0
  ReadsFirm tree found = (known : Option Names) → ReadsOnTo (λ b p. grammar.firm known b tree p) found

  -- the grammar reads this escape, with these groups known
  abbrev pub ReadsEscape : Option Names → Escape → Option (Body × Place) → Type 0
  ReadsEscape known escape found = ReadsOnTo (λ b p. grammar.escaped known b p escape) found

  -- the grammar makes one step in a group so deep, where this stands next, with these groups known
  abbrev pub ReadsStep : Option Names → Inner → ℕ → Next → Option (Body × Place) → Type 0
  ReadsStep known inner depth next found =
      ReadsOnTo (λ b p. grammar.step known inner depth b p next) found
