-- Where lines are refused: at a picked match that names a reference without target,
-- and nowhere else.
pub use Rattle.syntect_parsing.specs.syntect_grammar_loader.Named.{is_direct, NamesNoNumber, KnowNoNumber, AreByName}
use Rattle.std.specs.Prelude.{◌≡◌, ℕ, Bool, true, false, List, [], ◌∷◌, ◌++◌, find, Option, Some, None, is_none}
use Rattle.std.specs.List.{filter_map, flat_map, list_all}
use Rattle.std.specs.Option.{option_to_list}
use Rattle.syntect_reading_choice.specs.Engine.{Engine}
use Rattle.syntect_parsing.specs.syntect_grammar.Contexts.{context_at, part_of}
use Rattle.syntect_parsing.specs.syntect_grammar_contexts.Contexts.{target}
use Rattle.syntect_reading_choice.specs.Chain.{chain, last, patterns_of}
use Rattle.syntect_parsing.specs.Turn.{trimmed}
use Rattle.syntect_reading_choice.specs.Turn.{Live, Take, live, missing, named, winner}
use Rattle.syntect_parsing.specs.Line.{AnswersAll, Answer, Reaches, RefusesLine, at_start, start}
use Rattle.syntect_parsing.specs.syntect_grammar.Link.{syntaxes_in, linked}
use Rattle.syntect_parsing.specs.syntect_grammar_contexts.declared.context.ContextId.{ContextId}
use Rattle.syntect_parsing.specs.syntect_grammar_contexts.declared.context.ContextReference.{ContextReference}
use Rattle.syntect_parsing.specs.syntect_grammar_contexts.declared.context.MatchOperation.{MatchOperation}
use Rattle.syntect_parsing.specs.syntect_grammar_contexts.declared.context.MatchOperation.TheVariants as op
use Rattle.syntect_parsing.specs.syntect_grammar_contexts.declared.context.MatchPattern.{MatchPattern}
use Rattle.syntect_parsing.specs.syntect_grammar_contexts.declared.context.Pattern.{Pattern}
use Rattle.syntect_parsing.specs.syntect_grammar_contexts.declared.context.Pattern.TheVariants.{Match, Include}
use Rattle.syntect_parsing.specs.syntect_grammar_contexts.declared.context.Context.{Context}
use Rattle.syntect_parsing.specs.syntect_grammar_loader.declared.definition.SyntaxDefinition.{SyntaxDefinition}
use Rattle.syntect_parsing.specs.syntect_grammar.declared.syntax_set.SyntaxSet.{SyntaxSet}
use Rattle.syntect_parsing.specs.States.{Standing}
use Rattle.syntect_reading_choice.specs.declared.level.Level.{Level}
use Rattle.syntect_reading_choice.specs.declared.position.Position.{Position}
use Rattle.syntect_parsing.specs.syntect_grammar_contexts.declared.error.ParsingError.{ParsingError}
use Rattle.syntect_parsing.specs.syntect_grammar_contexts.declared.error.ParsingError.TheVariants as error

-- ---- what a refusal comes from ----

-- the turn from this position picks this match
pub record Picks (engine : Engine) (set : SyntaxSet) (line : List ℕ) (p : Position)
    (m : Live) : Type 0 where
  pub top : Level
  pub context : Context
  pub on_top : last p.levels ≡ Some top
  pub has_context : context_at set top.context ≡ Some context
  pub wins : winner line (trimmed p)
      (live engine line (trimmed p) (chain set (trimmed p) top context)) ≡ Take m

-- the first reference without target that a match names
abbrev pub unresolved_of : MatchPattern → Option ContextReference
unresolved_of m = find (λ r. is_none (target r)) (named m)

-- A turn of the line picks a match that names this reference, the first of its references that have
-- no target.
pub record PicksUnresolved (engine : Engine) (set : SyntaxSet) (line : List ℕ) (state : Standing)
    (r : ContextReference) : Type 0 where
  pub at : Position
  pub reached : Reaches engine set line (at_start state) at
  pub picked : Live
  pub picks : Picks engine set line at picked
  pub names : unresolved_of picked.pattern ≡ Some r

-- the refusal is that of such a reference
abbrev pub NamesUnresolved : Engine → SyntaxSet → List ℕ → Standing → ParsingError → Type 0
NamesUnresolved engine set line state e =
    (r : ContextReference) × (e ≡ error.UnresolvedContextReference r)
    × PicksUnresolved engine set line state r

-- ---- sets in which nothing else refuses ----

-- each match of these entries names contexts that the set has,
-- as far as its references have a target
abbrev pub NamesKnown : SyntaxSet → List Pattern → Type 0
NamesKnown set [] = Unit {0}
NamesKnown set (Match m ∷ ps) =
    (missing set (filter_map target (named m)) ≡ None) × NamesKnown set ps
NamesKnown set (Include r ∷ ps) = NamesKnown set ps

-- no reference and no prototype of the set leads out of it
pub record IsClosed (set : SyntaxSet) : Type 0 where
  pub names : (id : ContextId) (c : Context) → context_at set id ≡ Some c
      → NamesKnown set c.patterns
  pub prototypes : (id : ContextId) (c : Context) → context_at set id ≡ Some c
      → missing set (option_to_list c.prototype) ≡ None

-- the operation leaves the top level where it is
abbrev pub stays : MatchOperation → Bool
stays (op.Push refs) = true
stays (op.Set refs) = false
stays op.Pop = false
stays op.None = true

-- the patterns that are looked at where only the context of this number is open
abbrev pub lone_patterns : SyntaxSet → ContextId → List MatchPattern
lone_patterns set id =
    flat_map (λ q. patterns_of set q) (part_of (λ c. option_to_list c.prototype) set id)
    ++ patterns_of set id

-- The set has the context of this number, and nothing that is looked at in it alone pops it or sets
-- another in its place: a text that begins in it never leaves it.
pub record IsNeverLeft (set : SyntaxSet) (id : ContextId) : Type 0 where
  pub there : is_none (context_at set id) ≡ false
  pub stay : list_all (λ m. stays m.operation) (lone_patterns set id) ≡ true

-- From the start in a context that is never left, a line is refused exactly where a picked match
-- names a reference without target, with the refusal of that reference.
abbrev pub RefusesUnresolved : Type 0
RefusesUnresolved =
    (engine : Engine) (set : SyntaxSet) (id : ContextId) (lines : List (List ℕ))
    (answers : List Answer) (state : Standing) (line : List ℕ)
    → IsClosed set → IsNeverLeft set id → AnswersAll engine set lines (start id) answers state
    → ((e : ParsingError) (turns : ℕ) → RefusesLine engine set line state e turns
    → NamesUnresolved engine set line state e)
    × ((r : ContextReference) → PicksUnresolved engine set line state r
    → (turns : ℕ) × RefusesLine engine set line state (error.UnresolvedContextReference r) turns)

-- ---- definitions whose sets are so ----

-- A set whose syntaxes are definitions linked to one another, all of whose references are by name,
-- is closed.
abbrev pub LinksClosed : Type 0
LinksClosed = (set : SyntaxSet) (definitions : List SyntaxDefinition)
    → syntaxes_in set ≡ linked definitions → AreByName definitions → IsClosed set
