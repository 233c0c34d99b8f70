-- Sets in which some syntaxes stand as heads alone, and what has to be whole for the others to be
-- read as in the set of all.
pub use Rattle.syntect_shelf.specs.Places.{Whole, head_alone, shelved_at, shelved, last_of_scope, last_of_name, place_of, references_of, places_by, places_of_entry, places_of_context, places_of_definition, AreWhole, IsClosedShelf}
use Rattle.std.specs.Prelude.{◌≡◌, ◌↔◌, ℕ, true, List, Some, slice_get}
use Rattle.std.specs.Option.{option_and_then}
use Rattle.syntect_closed.specs.syntect_grammar.Contexts.{syntaxes_in}
use Rattle.syntect_closed.specs.syntect_grammar.Link.{linked}
use Rattle.syntect_closed.specs.syntect_reading_choice.Engine.{Engine}
use Rattle.syntect_parsing.specs.Line.{Answer, AnswersAll, start_of}
use Rattle.syntect_parsing.specs.declared.parser.Standing.{Standing}
use Rattle.syntect_closed.specs.Closed.{Part, IsClosedPart, AgreeOn}
use Rattle.syntect_closed.specs.syntect_grammar_loader.declared.definition.SyntaxDefinition.{SyntaxDefinition}
use Rattle.syntect_closed.specs.syntect_grammar.declared.syntax_set.SyntaxSet.{SyntaxSet}

-- the contexts of the whole ones
abbrev pub whole_part : Whole → Part
whole_part whole id = whole id.syntax_index

-- the set of all these definitions, and that in which some stand as heads alone
pub record AreShelved (whole : Whole) (ds : List SyntaxDefinition) (all some : SyntaxSet)
    : Type 0 where
  pub all_linked : syntaxes_in all ≡ linked ds
  pub some_linked : syntaxes_in some ≡ linked (shelved whole 0 ds)
  pub closed : IsClosedShelf whole (shelved whole 0 ds)

-- The contexts of whole syntaxes that lead to whole ones are linked as in the set of all, and lead
-- to one another.
abbrev pub ShelvedAgree : Type 0
ShelvedAgree =
    (whole : Whole) (ds : List SyntaxDefinition) (all some : SyntaxSet)
    → AreShelved whole ds all some
    → IsClosedPart all (whole_part whole) × AgreeOn (whole_part whole) all some

-- From a whole syntax both sets begin in the same state, and answer lines alike: by the same scopes
-- and the same refusals.
abbrev pub ShelvedReadAlike : Type 0
ShelvedReadAlike =
    (engine : Engine) (whole : Whole) (ds : List SyntaxDefinition) (all some : SyntaxSet)
    (i : ℕ) (state : Standing) → AreShelved whole ds all some → whole i ≡ true
    → (option_and_then start_of (slice_get (syntaxes_in some) i)
    ≡ option_and_then start_of (slice_get (syntaxes_in all) i))
    × (option_and_then start_of (slice_get (syntaxes_in some) i) ≡ Some state
    → (lines : List (List ℕ)) (answers : List Answer) (after : Standing)
    → AnswersAll engine all lines state answers after
    ↔ AnswersAll engine some lines state answers after)
