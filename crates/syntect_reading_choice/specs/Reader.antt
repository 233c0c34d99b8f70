-- The matches of a turn, by the reader that looks for them.
use Rattle.std.specs.Prelude.{ℕ, List, length, Option}
use Rattle.syntect_reading_choice.specs.syntect_pattern.Pattern.{pattern_found}
use Rattle.syntect_reading_choice.specs.syntect_grammar_contexts.Substitution.{Groups}
use Rattle.syntect_reading_choice.specs.Best.{AreGroupsOf}
use Rattle.syntect_reading_choice.specs.ChoiceViews.{live_from}
use Rattle.syntect_reading_choice.specs.Chain.{Member}
use Rattle.syntect_reading_choice.specs.Engine.{dialect}
use Rattle.syntect_reading_choice.specs.Turn.{Live, live, live_match, searched_text}
use Rattle.syntect_reading_choice.specs.declared.reader.LineReader.{LineReader}
use Rattle.syntect_reading_choice.specs.declared.search.Candidate.{Candidate}

-- those of members, in order
abbrev pub matches_of : LineReader → List Member → List Live
matches_of reader ms = live dialect reader.line.now reader.position.now ms

-- the match that a candidate stands for
abbrev pub seen_by : LineReader → Candidate → Live
seen_by reader c = live_from reader.line.now reader.position.now.place c

-- these are the groups of the match, if there is one
abbrev pub AreGroupsBy : LineReader → Option Candidate → Groups → Type 0
AreGroupsBy reader o groups = AreGroupsOf reader.line.now reader.position.now.place o groups

-- ---- For proofs and private functions alone ----

-- what a search of a member of the chain finds from a place on
abbrev pub search_of : LineReader → ℕ → Member → Option Groups
search_of reader from m =
    pattern_found (searched_text dialect m.pattern m.opening) reader.line.now from

-- the match of a member from the reader's place on, if it has one that counts
abbrev pub match_of : LineReader → Member → Option Live
match_of reader m =
    live_match dialect
    (length reader.position.now.levels) reader.line.now reader.position.now.place m
