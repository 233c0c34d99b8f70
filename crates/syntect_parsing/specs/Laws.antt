-- Laws of reading.
use Rattle.std.specs.Prelude.{◌≡◌, ℕ, max, List, [], ◌∷◌, ◌++◌, length, Some, false}
use Rattle.std.specs.Option.{option_map_or}
use Rattle.std.specs.Str.{IsUtf8}
use Rattle.syntect_parsing.specs.syntect_pattern.Nesting.{Span, AreNested, LiesIn}
use Rattle.syntect_reading_choice.specs.Engine.{Engine}
use Rattle.syntect_parsing.specs.syntect_grammar_contexts.Substitution.{Groups}
use Rattle.syntect_reading_choice.specs.Turn.{group_at, list_of}
use Rattle.syntect_parsing.specs.Scopes.{Scopes}
use Rattle.syntect_parsing.specs.Line.{Answer, Answers, AnswersAll, ReadsLine, RefusesLine, HasPlainStart}
use Rattle.syntect_parsing.specs.syntect_grammar_contexts.declared.context.Pattern.{Pattern}
use Rattle.syntect_parsing.specs.syntect_grammar_contexts.declared.context.Pattern.TheVariants.{Match, Include}
use Rattle.syntect_parsing.specs.syntect_grammar_contexts.declared.context.Context.{Context}
use Rattle.syntect_parsing.specs.syntect_grammar.declared.syntax_set.SyntaxSet.{SyntaxSet}
use Rattle.syntect_parsing.specs.States.{Standing}
use Rattle.syntect_parsing.specs.syntect_grammar_contexts.declared.error.ParsingError.{ParsingError}

-- No line is both accepted and refused.
abbrev pub NeverBoth : Type 0
NeverBoth =
    (engine : Engine) (set : SyntaxSet) (line : List ℕ) (state : Standing) (bytes : List Scopes)
    (after : Standing) (e : ParsingError) (m n : ℕ)
    → ReadsLine engine set line state bytes after m → RefusesLine engine set line state e n → ⊥

-- One more line is answered at the state that the lines before it lead to.
abbrev pub AnswersMore : Type 0
AnswersMore =
    (engine : Engine) (set : SyntaxSet) (lines : List (List ℕ)) (line : List ℕ)
    (state next after : Standing) (answers : List Answer) (answer : Answer)
    → AnswersAll engine set lines state answers next → Answers engine set line next answer after
    → AnswersAll engine set (lines ++ line ∷ []) state (answers ++ answer ∷ []) after

-- The answers to some lines and those to more lines after them are the answers to all of them,
abbrev pub AnswersJoin : Type 0
AnswersJoin =
    (engine : Engine) (set : SyntaxSet) (lines more : List (List ℕ))
    (state between after : Standing) (answers others : List Answer)
    → AnswersAll engine set lines state answers between
    → AnswersAll engine set more between others after
    → AnswersAll engine set (lines ++ more) state (answers ++ others) after

-- and lines can be parted anywhere.
abbrev pub AnswersPart : Type 0
AnswersPart =
    (engine : Engine) (set : SyntaxSet) (lines more : List (List ℕ)) (state after : Standing)
    (all : List Answer)
    → AnswersAll engine set (lines ++ more) state all after
    → (answers : List Answer) × (others : List Answer) × (between : Standing)
    × (all ≡ answers ++ others)
    × AnswersAll engine set lines state answers between
    × AnswersAll engine set more between others after

-- The whole match stands from the start to the end. Each group of a match that stands in no
-- lookaround lies in it, on character boundaries, and each two of these groups are apart or one in
-- the other.
pub record LaysOut (engine : Engine) (pattern text : List ℕ) (groups : Groups) : Type 0 where
  pub start : ℕ
  pub end : ℕ
  pub whole : group_at groups 0 ≡ Some (start, end)
  pub lies : (n : ℕ) (x : Span) → engine.in_lookaround pattern n ≡ false
      → group_at groups n ≡ Some x → LiesIn text start end x
  pub nested : (n m : ℕ) (x y : Span) → engine.in_lookaround pattern n ≡ false
      → engine.in_lookaround pattern m ≡ false
      → group_at groups n ≡ Some x → group_at groups m ≡ Some y → AreNested x y

-- every match that is found is laid out so
abbrev pub LaysGroupsOut : Engine → Type 0
LaysGroupsOut engine = (pattern text : List ℕ) (place : ℕ) (groups : Groups)
    → IsUtf8 text → engine.found pattern text place ≡ Some groups
    → LaysOut engine pattern text groups

-- If what the first accepted line pushes makes the stack that of the levels,
-- that holds before each line.
abbrev pub StackIsOpen : Type 0
StackIsOpen =
    (engine : Engine) (set : SyntaxSet) (lines : List (List ℕ)) (state after : Standing)
    (answers : List Answer)
    → HasPlainStart set state → AnswersAll engine set lines state answers after
    → HasPlainStart set after

-- ---- how many turns a line takes ----

-- how many contexts one match of these patterns can open at most, where 1 is the least that counts
abbrev pub longest_in : List Pattern → ℕ
longest_in [] = 1
longest_in (Match m ∷ ps) = max (option_map_or length (list_of m.operation) 0) (longest_in ps)
longest_in (Include r ∷ ps) = longest_in ps

-- how many contexts one match of these contexts' patterns can open at most, and at least 1
abbrev pub longest_of : List Context → ℕ
longest_of [] = 1
longest_of (c ∷ cs) = max (longest_in c.patterns) (longest_of cs)

-- how many contexts one match can open at most in these syntaxes' contexts, and at least 1
abbrev pub longest : List (List Context) → ℕ
longest [] = 1
longest (cs ∷ css) = max (longest_of cs) (longest css)
