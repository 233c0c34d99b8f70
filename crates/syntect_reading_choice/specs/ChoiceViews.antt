-- Members of a chain and their matches, as the reader of a line keeps them.
use Rattle.std.specs.Prelude.{◌≡◌, ℕ, List, [], unwrap_or}
use Rattle.std.specs.Option.{option_copied, option_map_or}
use Rattle.syntect_reading_choice.specs.syntect_pattern.Pattern.{pattern_found}
use Rattle.syntect_reading_choice.specs.Chain.{Member, chain, last}
use Rattle.syntect_reading_choice.specs.Engine.{Engine}
use Rattle.syntect_reading_choice.specs.syntect_grammar.Contexts.{context_at}
use Rattle.syntect_reading_choice.specs.syntect_grammar.declared.syntax_set.SyntaxSet.{SyntaxSet}
use Rattle.syntect_reading_choice.specs.declared.position.Position.{Position}
use Rattle.syntect_reading_choice.specs.Turn.{Live, live}
use Rattle.syntect_reading_choice.specs.Turn as turn
use Rattle.syntect_reading_choice.specs.declared.search.Entry.{Entry}
use Rattle.syntect_reading_choice.specs.declared.search.Candidate.{Candidate}
use Rattle.syntect_reading_choice.specs.declared.search.Choice.{Choice}
use Rattle.syntect_reading_choice.specs.declared.search.Choice.TheVariants as code

-- the text of the pattern that a candidate was searched with
abbrev pub text_of : Candidate → List ℕ
text_of c = unwrap_or c.substituted c.pattern.now.regex

-- the match that a candidate stands for, in this line from this place on
abbrev pub live_from : List ℕ → ℕ → Candidate → Live
live_from line place c = record {
  pattern = c.pattern.now;
  from_with_prototype = c.from_with_prototype;
  searched = text_of c;
  groups = unwrap_or (pattern_found (text_of c) line place) [];
  start = c.start;
  end = c.end;
}

abbrev pub choice_view : List ℕ → ℕ → Choice → turn.Choice
choice_view line place (code.Take c) = turn.Take (live_from line place c.now)
choice_view line place (code.Skip next) = turn.Skip
choice_view line place code.End = turn.End

-- where a character is passed over, the reader goes on at this place
abbrev pub SkipsTo : ℕ → Choice → Type 0
SkipsTo place (code.Take c) = Unit {0}
SkipsTo place (code.Skip next) = next ≡ place
SkipsTo place code.End = Unit {0}

-- ---- For proofs and private functions alone ----

abbrev pub member_of : Entry → Member
member_of e =
    record {
      pattern = e.pattern.now;
      opening = option_copied e.opening;
      from_with_prototype = e.from_with_prototype;
    }

-- the matches that a turn has to choose from, once cuts are dropped
abbrev pub live_in : Engine → SyntaxSet → List ℕ → Position → List Live
live_in engine set line p =
    option_map_or (λ top. option_map_or (λ c. live engine line p (chain set p top c))
    (context_at set top.context) []) (last p.levels) []
