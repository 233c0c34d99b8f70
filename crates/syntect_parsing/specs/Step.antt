-- What a call that makes one turn does.
use Rattle.std.specs.Prelude.{◌≡◌, ℕ, ◌-◌, ◌+◌, ◌*◌, ◌≤◌, Bool, true, false, List, ◌++◌, length}
use Rattle.syntect_parsing.specs.syntect_scope.declared.stack.ScopeStackOp.{ScopeStackOp}
use Rattle.std.specs.Str.{IsCharBoundary}
use Rattle.syntect_parsing.specs.syntect_scope.Replay.{Replay, InOrder, AllApply, replay}
use Rattle.syntect_parsing.specs.syntect_grammar.Contexts.{contexts_of}
use Rattle.syntect_reading_choice.specs.Engine.{Engine}
use Rattle.syntect_parsing.specs.Scopes.{Scopes}
use Rattle.syntect_parsing.specs.Stacks.{IsAt, Remembers, stack_of}
use Rattle.syntect_parsing.specs.Line.{Step, Goes, Ends, Refused, turn}
use Rattle.syntect_parsing.specs.Laws.{longest}
use Rattle.syntect_parsing.specs.Orderly.{IsOrderlyTurn}
use Rattle.syntect_parsing.specs.syntect_grammar.declared.syntax_set.SyntaxSet.{SyntaxSet}
use Rattle.syntect_reading_choice.specs.declared.position.TheConstants.{MOST_IDLE}
use Rattle.syntect_reading_choice.specs.declared.position.Position.{Position}
use Rattle.syntect_parsing.specs.syntect_grammar_contexts.declared.error.ParsingError.{ParsingError}
use Rattle.syntect_parsing.specs.syntect_grammar_contexts.declared.error.ParsingError.TheVariants as error

-- ---- For proofs and private functions alone ----

-- The step goes on to q, and these operations were added. They apply to any stack that remembers a
-- list for each level that clears, and leave such a one; where the step is orderly, they show the
-- scopes that it gives.
pub record MakesStep (orderly : Type 0) (set : SyntaxSet) (line : List ℕ) (step : Step)
    (p q : Position) (old new : List (ℕ × ScopeStackOp)) : Type 0 where
  pub bytes : List Scopes
  pub made : List (ℕ × ScopeStackOp)
  pub goes : step ≡ Goes bytes q
  pub added : new ≡ old ++ made
  pub shows : orderly → (r : Replay) (before : List Scopes)
      → IsAt r p.place before (stack_of set p.levels)
      → IsAt (replay made r) q.place (before ++ bytes) (stack_of set q.levels)
  pub order : InOrder line p.place made q.place
  pub apply : (r : Replay) → Remembers set p.levels r.stack
      → AllApply r.stack made × Remembers set q.levels (replay made r).stack
  pub within : q.place ≤ length line
  pub boundary : IsCharBoundary line q.place

-- The turn ends the line, with these levels and cuts, and no operation was added.
pub record EndsLine (engine : Engine) (set : SyntaxSet) (line : List ℕ) (p q : Position)
    (old new : List (ℕ × ScopeStackOp)) : Type 0 where
  pub bytes : List Scopes
  pub ends : turn engine set line p
      ≡ Ends bytes (record { levels = q.levels; cuts = q.cuts; first_line = false })
  pub same : q.levels ≡ p.levels
  pub unchanged : new ≡ old
  pub shows : (r : Replay) (before : List Scopes) → IsAt r p.place before (stack_of set p.levels)
      → IsAt r (length line) (before ++ bytes) (stack_of set p.levels)

abbrev pub Turns : Engine → SyntaxSet → List ℕ → Position → Position → List (ℕ × ScopeStackOp)
    → List (ℕ × ScopeStackOp) → Bool → Type 0
Turns engine set line p q old new true =
    MakesStep (IsOrderlyTurn engine set line p) set line (turn engine set line p) p q old new
Turns engine set line p q old new false = EndsLine engine set line p q old new

-- lack of memory, or the step's refusal
abbrev pub RefusesStep : Step → ParsingError → Type 0
RefusesStep step error.Memory = Unit {0}
RefusesStep step e = step ≡ Refused e

abbrev pub RefusesTurn : Engine → SyntaxSet → List ℕ → Position → ParsingError → Type 0
RefusesTurn engine set line p e = RefusesStep (turn engine set line p) e

-- how many turns may still come
abbrev pub turns_left : SyntaxSet → List ℕ → Position → ℕ
turns_left set line p =
    length p.levels
    + (longest (contexts_of set) + 1)
    * ((MOST_IDLE - p.idle) + (MOST_IDLE + 1) * (length line - p.place))
