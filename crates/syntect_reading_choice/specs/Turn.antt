-- Which match a turn takes.
pub use Rattle.syntect_reading_choice.specs.syntect_grammar_contexts.Contexts.{list_of, named}
pub use Rattle.syntect_reading_state.specs.Names.{unresolved, missing, refusal}
use Rattle.std.specs.Prelude.{ℕ, ◌==◌, nat_le, nat_lt, ◌+◌, Bool, true, false, ◌&&◌, not, List, [], ◌∷◌, length, find, Option, Some, None, if◌then◌else◌}
use Rattle.std.specs.Option.{option_map_or, option_flatten}
use Rattle.std.specs.List.{filter_map, list_all}
use Rattle.std.specs.Char.{len_utf8}
use Rattle.syntect_reading_choice.specs.syntect_pattern.Text.{char_at}
use Rattle.std.specs.List.{slice_get}
use Rattle.syntect_reading_choice.specs.Engine.{Engine}
use Rattle.syntect_reading_choice.specs.syntect_grammar_contexts.Substitution.{Groups, Opening}
use Rattle.syntect_reading_choice.specs.Chain.{Member}
use Rattle.syntect_reading_choice.specs.syntect_grammar_contexts.declared.context.MatchOperation.{MatchOperation}
use Rattle.syntect_reading_choice.specs.syntect_grammar_contexts.declared.context.MatchOperation.TheVariants as op
use Rattle.syntect_reading_choice.specs.syntect_grammar_contexts.declared.context.MatchPattern.{MatchPattern}
use Rattle.syntect_reading_choice.specs.declared.position.TheConstants.{MOST_LEVELS, MOST_IDLE}
use Rattle.syntect_reading_choice.specs.declared.position.Record.{Record}
use Rattle.syntect_reading_choice.specs.declared.position.Position.{Position}

-- ---- the live matches ----

-- a match of a member of the chain: its pattern, whether that is from a `with_prototype`, the text
-- that was searched, and the groups of the match and its ends
pub record Live : Type 0 where
  pub pattern : MatchPattern
  pub from_with_prototype : Bool
  pub searched : List ℕ
  pub groups : Groups
  pub start : ℕ
  pub end : ℕ

-- where a group stands, if it was set
abbrev pub group_at : Groups → ℕ → Option (ℕ × ℕ)
group_at groups n = option_flatten (slice_get groups n)

-- whether a match counts: one that reads nothing and does nothing is passed over, and so is a push
-- once as many levels are open as there may be
abbrev pub counts : ℕ → MatchOperation → ℕ → ℕ → Bool
counts height (op.Push refs) start end = nat_lt height MOST_LEVELS
counts height (op.Set refs) start end = true
counts height op.Pop start end = true
counts height op.None start end = not (start == end)

-- a match of a member in this text with these groups, the whole match at these ends
abbrev pub counted : ℕ → Member → List ℕ → Groups → Option (ℕ × ℕ) → Option Live
counted height member text groups None = None
counted height member text groups (Some at) =
    if counts height member.pattern.operation at.0 at.1
    then Some (record {
      pattern = member.pattern;
      from_with_prototype = member.from_with_prototype;
      searched = text;
      groups = groups;
      start = at.0;
      end = at.1;
    })
    else None

-- the match of a member in this text, if a search found groups and it counts
abbrev pub matched : ℕ → Member → List ℕ → Option Groups → Option Live
matched height member text None = None
matched height member text (Some groups) = counted height member text groups (group_at groups 0)

module _ (engine : Engine) where
  -- the text that is searched: substituted where the pattern uses back references and there is an
  -- opening match
  abbrev pub searched_text : MatchPattern → Option Opening → List ℕ
  searched_text m None = m.regex
  searched_text m (Some o) =
      if m.has_captures then engine.substituted m.regex o.region o.line else m.regex

  -- the match of a member of the chain from the place on, if it has one that counts
  abbrev pub live_match : ℕ → List ℕ → ℕ → Member → Option Live
  live_match height line place member =
      let text = searched_text member.pattern member.opening in
      matched height member text (engine.found text line place)

  -- the members of a chain that match from the place on, in order
  abbrev pub live : List ℕ → Position → List Member → List Live
  live line p members = filter_map (live_match (length p.levels) line p.place) members

-- ---- the winner ----

-- there is a record, and it is of this place and of as many levels as are open
abbrev pub is_at_record : Position → Option Record → Bool
is_at_record p None = false
is_at_record p (Some r) = (r.place == p.place) && (r.height == length p.levels)

-- a match with this operation would go round in circles at the place itself
abbrev pub turns_back : Position → MatchOperation → Bool
turns_back p (op.Push refs) = p.idle == MOST_IDLE
turns_back p (op.Set refs) = p.idle == MOST_IDLE
turns_back p op.Pop = is_at_record p p.last
turns_back p op.None = false

-- the match ends at the place where the turn begins, and would go round in circles there
abbrev pub loops : Position → Live → Bool
loops p m = (m.end == p.place) && turns_back p m.pattern.operation

-- no match of the list starts before it
abbrev pub is_least : List Live → Live → Bool
is_least ms m = list_all (λ k. nat_le m.start k.start) ms

-- what a turn does: take a match, pass over a character, or end the line
pub data Choice : Type 0 where
  Take : Live → Choice
  Skip : Choice
  End : Choice

-- how many bytes the character at a place has
abbrev pub char_len : List ℕ → ℕ → ℕ
char_len line place = option_map_or len_utf8 (char_at line place) 1

-- If all matches of least start loop, one character is passed over, or the line ends where at most
-- one is left. Without matches it ends.
abbrev pub choice_of : List ℕ → ℕ → List Live → Option Live → Choice
choice_of line place ms (Some m) = Take m
choice_of line place [] None = End
choice_of line place (m ∷ ms) None =
    if nat_lt (place + char_len line place) (length line) then Skip else End

-- of the matches that begin first, the foremost in the chain that goes on
abbrev pub winner : List ℕ → Position → List Live → Choice
winner line p ms = choice_of line p.place ms (find (λ m. is_least ms m && not (loops p m)) ms)
