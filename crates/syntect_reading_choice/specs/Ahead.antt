-- How far a turn has looked, pattern by pattern.
use Rattle.std.specs.Prelude.{◌≡◌, ℕ, ◌+◌, ◌<◌, ◌≤◌, ◌⊎◌, Bool, true, false, List, [], ◌∷◌, ◌++◌, length, Option, Some, None, unwrap_or, slice_index_or}
use Rattle.std.specs.List.{All, cons_option, flat_map}
use Rattle.std.specs.Option.{option_copied}
use Rattle.syntect_reading_choice.specs.syntect_pattern.declared.anchor.Anchor.{Anchor}
use Rattle.syntect_reading_choice.specs.syntect_pattern.Matches.{anchor_holds, is_word_edge}
use Rattle.syntect_reading_choice.specs.syntect_pattern_table.Starts.{is_in, start_at}
use Rattle.syntect_reading_choice.specs.syntect_grammar_contexts.declared.context.MatchPattern.{MatchPattern}
use Rattle.syntect_reading_choice.specs.syntect_pattern_table.declared.starts.Places.{Places}
use Rattle.syntect_reading_choice.specs.syntect_grammar_lists.Rows.{behind_of}
use Rattle.syntect_reading_choice.specs.syntect_grammar_lists.declared.flats.Flat.{Flat}
use Rattle.syntect_reading_choice.specs.syntect_grammar_lists.declared.flats.Outlook.{Outlook}
use Rattle.syntect_reading_choice.specs.syntect_grammar.Flats.{AreFlatsOf, pattern_at}
use Rattle.syntect_reading_choice.specs.syntect_grammar.declared.syntax_set.SyntaxSet.{SyntaxSet}
use Rattle.syntect_reading_choice.specs.syntect_pattern_word_ends.Ends.{IsRunUpTo}
use Rattle.syntect_reading_choice.specs.Best.{IsBest}
use Rattle.syntect_reading_choice.specs.Chain.{Member}
use Rattle.syntect_reading_choice.specs.Engine.{dialect}
use Rattle.syntect_reading_state.specs.Losses.{is_lost, marks_of}
use Rattle.syntect_reading_choice.specs.Parts.{flat_members, part_member, part_members}
use Rattle.syntect_reading_choice.specs.Reader.{match_of, matches_of, search_of}
use Rattle.syntect_reading_choice.specs.Turn.{Live, searched_text}
use Rattle.syntect_reading_choice.specs.declared.chain.Part.{Part}
use Rattle.syntect_reading_choice.specs.declared.reader.LineReader.{LineReader}
use Rattle.syntect_reading_choice.specs.declared.search.Best.{Best}
use Rattle.syntect_reading_choice.specs.declared.runs.Kept.{Kept}
use Rattle.syntect_reading_choice.specs.declared.runs.Kept.TheVariants as kept
use Rattle.syntect_reading_choice.specs.declared.sweep.Reach.{Reach}
use Rattle.syntect_reading_choice.specs.declared.runs.Run.{Run}

-- the patterns of a flat list, wherever it is kept
abbrev pub list_in : Kept → List Flat
list_in (kept.Lent flats) = flats.now
list_in (kept.Own flats) = flats.value

-- each pattern at the places of a flat list is searched in this form, or as it stands
abbrev pub AreReplaced : SyntaxSet → Part → List Flat → List (Option (List ℕ)) → Type 0
AreReplaced set part flats replaced = (k : ℕ) (d : Flat) (m : MatchPattern) → k < length flats
    → pattern_at set (slice_index_or flats k d) ≡ Some m
    → unwrap_or (slice_index_or replaced k None) m.regex
    ≡ searched_text dialect m (option_copied part.opening)

-- the flat list is that of the part's context, and its patterns are searched in the form that the
-- opening match asks for
pub record IsRun (set : SyntaxSet) (run : Run) : Type 0 where
  pub flats : AreFlatsOf set run.part.id (list_in run.flats)
  pub replaced : AreReplaced set run.part (list_in run.flats) run.replaced.items

-- ---- For proofs and private functions alone ----

-- A search of a member from the reader's place on finds what one from this place on finds; or its
-- first match from the reader's place on doesn't count, so that it is out and has none that does.
abbrev pub IsAhead : LineReader → Bool → ℕ → Member → Type 0
IsAhead reader lost i m =
    ((lost ≡ false) × (search_of reader reader.position.now.place m ≡ search_of reader i m))
    ⊎ ((lost ≡ true) × (match_of reader m ≡ None))

-- so it is with all patterns of a part from an index on, by the marks of those that are out,
abbrev pub AreAheadFrom : LineReader → List Bool → ℕ → Run → ℕ → Type 0
AreAheadFrom reader marks i run from =
    (k : ℕ) (d : Flat) (m : MatchPattern) → from ≤ k → k < length (list_in run.flats)
    → pattern_at reader.set.now (slice_index_or (list_in run.flats) k d) ≡ Some m
    → IsAhead reader (is_lost marks k) i (part_member run.part m)

-- with those before it,
abbrev pub AreAheadUpTo : LineReader → List Bool → ℕ → Run → ℕ → Type 0
AreAheadUpTo reader marks i run to =
    (k : ℕ) (d : Flat) (m : MatchPattern) → k < to → k < length (list_in run.flats)
    → pattern_at reader.set.now (slice_index_or (list_in run.flats) k d) ≡ Some m
    → IsAhead reader (is_lost marks k) i (part_member run.part m)

-- with all of them,
abbrev pub AreAhead : LineReader → List Bool → ℕ → Run → Type 0
AreAhead reader marks i run = AreAheadFrom reader marks i run 0

-- and with all parts of a chain
abbrev pub AllAhead : LineReader → List (List Bool) → ℕ → List Run → Type 0
AllAhead reader losses i runs = (k : ℕ) (r : Run) → k < length runs
    → AreAhead reader (marks_of losses k) i (slice_index_or runs k r)

-- what is seen of a place of the line
pub record Sees (o : Outlook) (line : List ℕ) (i : ℕ) : Type 0 where
  pub here : o.here ≡ start_at line i
  pub end : ℕ
  pub run : IsRunUpTo o.blank line i end
  pub behind : o.behind ≡ start_at line end
  pub edges : o.off_edges ≡ true → is_word_edge line i ≡ false
  pub lines : o.off_lines ≡ true → anchor_holds line Anchor.LineStart i ≡ false

-- what is known of white space, or else a word that goes on at the place: up to where it does, and
-- what comes after it
abbrev pub Reaches : List ℕ → ℕ → Reach → Type 0
Reaches line i r = i < r.end
    → (IsRunUpTo r.blank line i r.end) × (r.behind ≡ start_at line r.end) × (r.behind < 130)

-- something comes after the white space, or the word, at the place that no match of the pattern has
-- after one in which it begins
pub record IsCutOff (line : List ℕ) (i : ℕ) (flat : Flat) : Type 0 where
  pub blank : Bool
  pub end : ℕ
  pub run : IsRunUpTo blank line i end
  pub out : is_in (behind_of blank flat) (start_at line end) ≡ false

-- No match of the pattern begins at the place: nothing that stands there begins one, or the run
-- there is cut off, or a word goes on there and the pattern's matches begin only where one begins
-- or ends.
abbrev pub IsRuledOut : List ℕ → ℕ → Flat → Type 0
IsRuledOut line i flat =
    (is_in flat.begins (start_at line i) ≡ false)
    ⊎ (IsCutOff line i flat ⊎ (((flat.at_edges ≡ true) × (is_word_edge line i ≡ false))
    ⊎ ((flat.at_lines ≡ true) × (anchor_holds line Anchor.LineStart i ≡ false))))

-- no pattern of the part can begin with this, as its list tells
abbrev pub IsQuiet : ℕ → Run → Type 0
IsQuiet x run = (k : ℕ) (d : Flat) → k < length (list_in run.flats)
    → is_in (slice_index_or (list_in run.flats) k d).begins x ≡ false

-- the patterns of all parts begin with some of this alone
abbrev pub BeginIn : Places → List Run → Type 0
BeginIn begins runs = (x : ℕ) → x < 130 → is_in begins x ≡ false → All (IsQuiet x) runs

-- the members of the chain that a part stands for
abbrev pub run_members : SyntaxSet → Run → List Member
run_members set run = part_members set run.part

-- the best of these matches, where all that begin before this place were looked for
-- and there are none
pub record IsBestAt (reader : LineReader) (i : ℕ) (ms : List Live) (b : Best) : Type 0 where
  pub best : IsBest reader.line.now reader.position.now i ms b
  pub here : b.is_match ≡ true → b.start ≡ i

-- The best of some matches is now the best of them and of a member's; and as long as none is found
-- here, the member is ahead.
pub record AddsMember (reader : LineReader) (i : ℕ) (lost : Bool) (m : Member) (ms : List Live)
    (b : Best) : Type 0 where
  pub best : IsBestAt reader i (ms ++ cons_option (match_of reader m) []) b
  pub ahead : b.is_match ≡ false → IsAhead reader lost (i + 1) m

-- the same of the pattern of a part at an index
pub record AddsAt (reader : LineReader) (i : ℕ) (marks : List Bool) (run : Run) (index : ℕ)
    (ms : List Live) (b : Best) : Type 0 where
  pub best : (d : Flat) → IsBestAt reader i (ms
      ++ matches_of reader (flat_members reader.set.now run.part
      (slice_index_or (list_in run.flats) index d ∷ []))) b
  pub ahead : (d : Flat) (m : MatchPattern) → b.is_match ≡ false
      → pattern_at reader.set.now (slice_index_or (list_in run.flats) index d) ≡ Some m
      → IsAhead reader (is_lost marks index) (i + 1) (part_member run.part m)

-- the same of a part's patterns
pub record AddsRun (reader : LineReader) (i : ℕ) (marks : List Bool) (run : Run)
    (ms : List Live) (b : Best) : Type 0 where
  pub best : IsBestAt reader i (ms ++ matches_of reader (part_members reader.set.now run.part)) b
  pub ahead : b.is_match ≡ false → AreAhead reader marks (i + 1) run

-- the same of all parts of a chain
pub record AddsAll (reader : LineReader) (i : ℕ) (losses : List (List Bool)) (runs : List Run)
    (b : Best) : Type 0 where
  pub best : IsBestAt reader i (matches_of reader (flat_map (run_members reader.set.now) runs)) b
  pub ahead : b.is_match ≡ false → AllAhead reader losses (i + 1) runs
