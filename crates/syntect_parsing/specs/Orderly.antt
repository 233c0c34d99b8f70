-- Lines in which what contexts clear is put back in the order in which it was cleared.
use Rattle.std.specs.Prelude.{◌≡◌, ℕ, Bool, true, ◌&&◌, List, ◌∷◌, ◌++◌, drop, is_none}
use Rattle.std.specs.List.{filter_map}
use Rattle.syntect_parsing.specs.syntect_grammar_contexts.Contexts.{target}
use Rattle.syntect_reading_choice.specs.Engine.{Engine}
use Rattle.syntect_parsing.specs.Visible.{top_clearing}
use Rattle.syntect_parsing.specs.Operations.{clear_nothing}
use Rattle.syntect_reading_choice.specs.Turn.{Live}
use Rattle.syntect_parsing.specs.Line.{Answer, AnswersAll, Reaches, ReadsLine, at_start}
use Rattle.syntect_parsing.specs.Scopes.{Scopes}
use Rattle.syntect_parsing.specs.Refusals.{Picks}
use Rattle.syntect_parsing.specs.syntect_grammar_contexts.declared.context.MatchOperation.{MatchOperation}
use Rattle.syntect_parsing.specs.syntect_grammar_contexts.declared.context.MatchOperation.TheVariants as op
use Rattle.syntect_parsing.specs.syntect_grammar.declared.syntax_set.SyntaxSet.{SyntaxSet}
use Rattle.syntect_reading_choice.specs.declared.position.Position.{Position}
use Rattle.syntect_parsing.specs.States.{Standing}
use Rattle.syntect_reading_choice.specs.declared.level.Level.{Level}

-- no context of a push or set clears after its first, and a set leaves no context that clears: then
-- what is cleared is put back in order
abbrev pub is_orderly : SyntaxSet → List Level → MatchOperation → Bool
is_orderly set levels (op.Push refs) = clear_nothing set (drop 1 (filter_map target refs))
is_orderly set levels (op.Set refs) =
    is_none (top_clearing set levels) && clear_nothing set (drop 1 (filter_map target refs))
is_orderly set levels op.Pop = true
is_orderly set levels op.None = true

-- so is the match that the turn from this position picks, if it picks one
abbrev pub IsOrderlyTurn : Engine → SyntaxSet → List ℕ → Position → Type 0
IsOrderlyTurn engine set line p =
    (m : Live) → Picks engine set line p m → is_orderly set p.levels m.pattern.operation ≡ true

-- so is each match of a line that is read from this state
abbrev pub IsOrderlyLine : Engine → SyntaxSet → List ℕ → Standing → Type 0
IsOrderlyLine engine set line state =
    (p : Position) → Reaches engine set line (at_start state) p → IsOrderlyTurn engine set line p

-- so is each of these lines that is accepted, read one after another from this state; those that
-- are refused leave no trace
abbrev pub IsOrderlyRun : Engine → SyntaxSet → List (List ℕ) → Standing → Type 0
IsOrderlyRun engine set lines state =
    (before behind : List (List ℕ)) (line : List ℕ) (answers : List Answer)
    (next after : Standing) (bytes : List Scopes) (turns : ℕ)
    → lines ≡ before ++ line ∷ behind → AnswersAll engine set before state answers next
    → ReadsLine engine set line next bytes after turns → IsOrderlyLine engine set line next
