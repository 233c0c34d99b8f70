-- What is known, while a line is read, of the patterns that were tried in it.
use Rattle.std.specs.Prelude.{◌≡◌, ℕ, List, Option, Some, string_bytes}
use Rattle.std.specs.List.{All}
use Rattle.std.specs.Option.{option_and_then}
use Rattle.syntect_reading_state.specs.syntect_grammar_contexts.Contexts.{match_of}
use Rattle.syntect_reading_state.specs.syntect_grammar_contexts.declared.context.MatchPattern.{MatchPattern}
use Rattle.syntect_reading_state.specs.syntect_grammar_lists.declared.flats.Origin.{Origin}
use Rattle.syntect_grammar.specs.Contexts.{context_at}
use Rattle.syntect_grammar.specs.declared.syntax_set.SyntaxSet.{SyntaxSet}
use Rattle.syntect_reading_state.specs.syntect_pattern_seek.Depths.{AreDepthsIn}
use Rattle.syntect_reading_state.specs.syntect_pattern_seek.Prospect.{IsProspectOf}
use Rattle.syntect_reading_state.specs.syntect_pattern_seek.declared.prospect.Prospect.{Prospect}
use Rattle.syntect_reading_state.specs.declared.hints.Hint.{Hint}
use Rattle.syntect_reading_state.specs.declared.memory.Memo.{Memo}
use Rattle.syntect_reading_state.specs.declared.memory.Memory.{Memory}

-- the pattern that stands there, if there is one
abbrev pub origin_pattern : SyntaxSet → Origin → Option MatchPattern
origin_pattern set origin =
    option_and_then (λ c. match_of c origin.index) (context_at set origin.context)

-- so much is true of the pattern that stands there, in the line
abbrev pub IsKnownAt : SyntaxSet → List ℕ → Origin → Prospect → Type 0
IsKnownAt set line origin prospect = (m : MatchPattern) → origin_pattern set origin ≡ Some m
    → IsProspectOf m.regex line prospect

-- what is kept in mind is true of the patterns in the line
abbrev pub AreKnown : SyntaxSet → List ℕ → List Memo → Type 0
AreKnown set line memos =
    All (λ memo. IsKnownAt set line memo.origin memo.prospect) memos

-- so is what is kept of a pattern that is searched in the place of another one
abbrev pub IsHintOf : List ℕ → Hint → Type 0
IsHintOf line hint = IsProspectOf (string_bytes hint.pattern) line hint.prospect

abbrev pub AreHintsIn : List ℕ → List Hint → Type 0
AreHintsIn line hints = All (λ hint. IsHintOf line hint) hints

-- and so is what is kept of those that backed up too often
pub record Remembers (set : SyntaxSet) (line : List ℕ) (memory : Memory) : Type 0 where
  pub memos : AreKnown set line memory.memos
  pub hints : AreHintsIn line memory.hints
  pub depths : AreDepthsIn line memory.depths
