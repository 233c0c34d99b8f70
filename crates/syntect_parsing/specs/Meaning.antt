-- What a call that reads a line promises.
use Rattle.std.specs.Prelude.{◌≡◌, ◌≢◌, ℕ, false, List, [], ◌++◌, length, None}
use Rattle.syntect_parsing.specs.syntect_scope.declared.stack.ScopeStackOp.{ScopeStackOp}
use Rattle.syntect_parsing.specs.Stacks.{IsAt, Remembers}
use Rattle.syntect_parsing.specs.syntect_scope.declared.stack.ScopeStack.{ScopeStack}
use Rattle.syntect_parsing.specs.Orderly.{IsOrderlyLine}
use Rattle.syntect_parsing.specs.syntect_scope.Replay.{InOrder, AllApply, replay, before_text, pushes}
use Rattle.syntect_reading_choice.specs.Engine.{Engine}
use Rattle.syntect_parsing.specs.Scopes.{Scopes}
use Rattle.syntect_parsing.specs.Line.{ReadsLine, RefusesLine, stack_before, first_push, start_of, HasPlainStart}
use Rattle.syntect_parsing.specs.syntect_grammar_contexts.declared.syntax_reference.SyntaxReference.{SyntaxReference}
use Rattle.syntect_parsing.specs.syntect_grammar.declared.syntax_set.SyntaxSet.{SyntaxSet}
use Rattle.syntect_parsing.specs.States.{Standing}
use Rattle.syntect_parsing.specs.syntect_grammar_contexts.declared.error.ParsingError.{ParsingError}
use Rattle.syntect_parsing.specs.syntect_grammar_contexts.declared.error.ParsingError.TheVariants as error

-- The operations of an accepted line are in order, and the first accepted line begins with the
-- first content scope of `__start`. They all apply to a stack that remembers at least a list for
-- each level that clears, and leave such a one. Where the first push makes the stack that of the
-- levels and the line is orderly, from the stack before the line they show at each byte the scopes
-- that were read, and leave the stack before the next line, which is that of its levels.
pub record Means (engine : Engine) (set : SyntaxSet) (line : List ℕ) (old new : Standing)
    (bytes : List Scopes) (ops : List (ℕ × ScopeStackOp)) : Type 0 where
  pub order : InOrder line 0 ops (length line)
  pub begins : (rest : List (ℕ × ScopeStackOp)) × (ops ≡ pushes 0 (first_push set old) ++ rest)
  pub apply : (stack : ScopeStack) → Remembers set old.levels stack
      → AllApply stack ops × Remembers set new.levels (replay ops (before_text stack)).stack
  pub shows : HasPlainStart set old → IsOrderlyLine engine set line old
      → IsAt (replay ops (before_text (stack_before set old))) (length line) bytes
      (stack_before set new)
  pub begun : new.first_line ≡ false

-- the line is read, and the operations mean what was read
pub record Accepts (engine : Engine) (set : SyntaxSet) (line : List ℕ) (old new : Standing)
    (ops : List (ℕ × ScopeStackOp)) : Type 0 where
  pub bytes : List Scopes
  pub turns : ℕ
  pub reads : ReadsLine engine set line old bytes new turns
  pub means : Means engine set line old new bytes ops

-- the refusal that the reading comes to; or lack of memory, but not where no level is open, as no
-- turn is made there
abbrev pub RefusesLineOrMemory : Engine → SyntaxSet → List ℕ → Standing → ParsingError → Type 0
RefusesLineOrMemory engine set line state error.Memory = state.levels ≢ []
RefusesLineOrMemory engine set line state e = (turns : ℕ) × RefusesLine engine set line state e turns

-- the syntax has no `__start`; or it has one, and memory ran out
abbrev pub MayLackStart : SyntaxReference → ParsingError → Type 0
MayLackStart syntax error.Memory = start_of syntax ≢ None
MayLackStart syntax error.MissingMainContext = start_of syntax ≡ None
MayLackStart syntax _ = ⊥
