-- Which definitions of a shelf are still to be read.
use Rattle.std.specs.Prelude.{◌≡◌, ℕ, Bool, true, not, List, codes, find, Option, Some, None, slice_get, slice_index_or, if◌then◌else◌}
use Rattle.std.specs.Option.{option_and_then, option_to_list}
use Rattle.syntect_shelf.specs.Places.{Whole, last_of_name, places_of_definition}
use Rattle.syntect_grammar.specs.syntect_grammar_loader.declared.definition.SyntaxDefinition.{SyntaxDefinition}

-- which places are whole, by flags; past them there is nothing to be read
abbrev pub whole_by : List Bool → Whole
whole_by flags i = slice_index_or flags i true

-- the first of these places that isn't whole
abbrev pub unread_among : List Bool → List ℕ → Option ℕ
unread_among flags places = find (λ i. not (whole_by flags i)) places

-- the first place that is still to be read and to which the definition at a place leads, if that is
-- whole
abbrev pub unread_from : List SyntaxDefinition → List Bool → ℕ → Option ℕ
unread_from ds flags i =
    if whole_by flags i
    then option_and_then (λ d. unread_among flags (places_of_definition ds d)) (slice_get ds i)
    else None

-- the place of plain text, if it is still to be read
abbrev pub unread_plain : List SyntaxDefinition → List Bool → Option ℕ
unread_plain ds flags =
    unread_among flags (option_to_list (last_of_name (codes "Plain Text") ds))

-- a place is still to be read: that of plain text, or one to which a whole definition leads
pub data IsUnread (ds : List SyntaxDefinition) (flags : List Bool) (place : ℕ) : Type 0 where
  of_plain_text : unread_plain ds flags ≡ Some place → IsUnread ds flags place
  of_whole : (i : ℕ) → unread_from ds flags i ≡ Some place → IsUnread ds flags place
