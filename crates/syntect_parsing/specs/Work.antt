-- How many steps the searches of a line take at most.
use Rattle.std.specs.Prelude.{◌≡◌, ℕ, ◌+◌, ◌*◌, ◌≤◌, true, false, List, length, Some, slice_get, Result, Ok, Err}
use Rattle.std.specs.List.{flat_map}
use Rattle.syntect_parsing.specs.syntect_grammar.Patterns.{entries, patterns_of}
use Rattle.syntect_parsing.specs.syntect_regex.Bounds.{pattern_is_linear, search_bound}
use Rattle.syntect_reading_choice.specs.Chain.{chain_at}
use Rattle.syntect_reading_choice.specs.Engine.{dialect}
use Rattle.syntect_reading_choice.specs.Steps.{ArePutWithin, AreWithin, turn_steps, turn_work}
use Rattle.syntect_parsing.specs.Bound.{most_turns}
use Rattle.syntect_parsing.specs.Line.{Reaches, at_start}
use Rattle.syntect_parsing.specs.Turn.{trimmed}
use Rattle.syntect_parsing.specs.syntect_grammar_contexts.declared.context.ContextId.{ContextId}
use Rattle.syntect_parsing.specs.syntect_grammar_contexts.declared.context.MatchPattern.{MatchPattern}
use Rattle.syntect_parsing.specs.syntect_grammar_contexts.declared.context.Pattern.TheVariants.{Match}
use Rattle.syntect_parsing.specs.syntect_grammar.declared.syntax_set.SyntaxSet.{SyntaxSet}
use Rattle.syntect_reading_choice.specs.declared.level.Level.{Level}
use Rattle.syntect_reading_choice.specs.declared.position.Position.{Position}
use Rattle.syntect_parsing.specs.States.{Standing}
use Rattle.syntect_parsing.specs.syntect_grammar_contexts.declared.error.ParsingError.{ParsingError}
use Rattle.syntect_parsing.specs.syntect_grammar_contexts.declared.error.ParsingError.TheVariants as error

-- Each turn of the line's reading looks at no more patterns than this; what is searched for each is
-- linear, a search of it in the line takes no more steps than that, and to put the texts of groups
-- into it no more than the last.
abbrev pub LooksWithin : SyntaxSet → List ℕ → Standing → ℕ → ℕ → ℕ → Type 0
LooksWithin set line state patterns most put =
    (p : Position) → Reaches dialect set line (at_start state) p
    → (length (chain_at set (trimmed p)) ≤ patterns)
    × AreWithin (length line) most (chain_at set (trimmed p))
    × ArePutWithin put (chain_at set (trimmed p))

-- For all numbers within which the line looks, all patterns there being linear: from the number
-- before the line to the one after it the searches of so many turns took at most those steps a turn.
abbrev pub TakesSteps : SyntaxSet → List ℕ → Standing → ℕ → ℕ → ℕ → Type 0
TakesSteps set line state turns before after = (patterns most put : ℕ)
    → LooksWithin set line state patterns most put
    → after ≤ before + turns * turn_work patterns most put (length line)

-- ---- a bound that the set and the line give ----

-- the pattern is searched as it stands, and linear, and a search of it in a text so long takes no
-- more steps than this
pub record IsPlainWithin (long most : ℕ) (m : MatchPattern) : Type 0 where
  pub plain : m.has_captures ≡ false
  pub linear : pattern_is_linear m.regex ≡ true
  pub few : search_bound m.regex long ≤ most

-- so it is with each pattern of the set
abbrev pub AllWithin : SyntaxSet → ℕ → ℕ → Type 0
AllWithin set long most = (id : ContextId) (index : ℕ) (m : MatchPattern)
    → slice_get (entries set id) index ≡ Some (Match m) → IsPlainWithin long most m

-- no context has more patterns than this, those that includes lead to counted for each path
abbrev pub HasWalksWithin : SyntaxSet → ℕ → Type 0
HasWalksWithin set each = (id : ContextId) → length (patterns_of set id) ≤ each

-- how many prototypes these levels brought
abbrev pub prototypes_of : List Level → ℕ
prototypes_of levels = length (flat_map (λ l. l.prototypes) levels)

-- No turn of the line looks at more patterns: those of each prototype that the open levels brought,
-- and of one more for each turn that there may be, of the top context, and of its own prototype.
abbrev pub most_patterns : SyntaxSet → List ℕ → Standing → ℕ → ℕ
most_patterns set line state each =
    (prototypes_of state.levels + most_turns set line state + 2) * each

-- from the number before the line to the one after it all searches took at most this
abbrev pub TakesMostSteps : SyntaxSet → List ℕ → Standing → ℕ → ℕ → Type 0
TakesMostSteps set line state before after =
    (each most : ℕ) → HasWalksWithin set each → AllWithin set (length line) most
    → after ≤ before
    + most_turns set line state
    * turn_steps (most_patterns set line state each) most (length line)

-- ---- out of memory ----

-- this holds, unless memory ran out
abbrev pub UnlessWanting : Type 0 → ParsingError → Type 0
UnlessWanting P error.Memory = Unit {0}
UnlessWanting P e = P

-- the same of an answer or a refusal
abbrev pub UnlessMemory : {X : Type 0} → Result X ParsingError → Type 0 → Type 0
UnlessMemory (Ok x) P = P
UnlessMemory (Err e) P = UnlessWanting P e

-- ---- For proofs and private functions alone ----

-- the same of the one turn from a position where cuts are dropped
abbrev pub TakesTurnSteps : SyntaxSet → List ℕ → Position → ℕ → ℕ → Type 0
TakesTurnSteps set line p before after = (most put : ℕ)
    → AreWithin (length line) most (chain_at set p) → ArePutWithin put (chain_at set p)
    → after ≤ before + turn_work (length (chain_at set p)) most put (length line)
