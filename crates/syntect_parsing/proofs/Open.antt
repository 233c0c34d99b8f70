-- The stack before each line is the open scopes.
use Rattle.std.proofs.Common.{◌≡◌, ℕ, false, List, Option, Some, None, refl, ap}
use Rattle.std.proofs.lemmas.List.{append-nil}
use Rattle.syntect_parsing.specs.syntect_grammar.Contexts.{context_at}
use Rattle.syntect_reading_choice.specs.Chain.{last, chain, prototypes_in}
use Rattle.syntect_reading_choice.specs.Engine.{Engine}
use Rattle.syntect_reading_choice.specs.declared.position.Position.{Position}
use Rattle.syntect_parsing.specs.Turn.{position_after, trimmed}
use Rattle.syntect_reading_choice.specs.Turn.{Choice, Take, Skip, End, live, winner, missing, refusal}
use Rattle.syntect_parsing.specs.Scopes.{Scopes, scopes_passed}
use Rattle.syntect_parsing.specs.Stacks.{stack_of}
use Rattle.syntect_parsing.specs.Line.{Step, Goes, Ends, Refused, turn, turn_on, turn_in, step, unless_refused, Reads, ends, goes, at_start, Answer, Answers, accepts, refuses, none, one_more, HasPlainStart}
use Rattle.syntect_parsing.specs.Laws.{StackIsOpen}
use Rattle.syntect_parsing.specs.syntect_grammar_contexts.declared.context.Context.{Context}
use Rattle.syntect_parsing.specs.syntect_grammar.declared.syntax_set.SyntaxSet.{SyntaxSet}
use Rattle.syntect_parsing.specs.States.{Standing}
use Rattle.syntect_reading_choice.specs.declared.level.Level.{Level}
use Rattle.syntect_parsing.specs.syntect_grammar_contexts.declared.error.ParsingError.{ParsingError}

abbrev LeavesLater : Step → Type 0
LeavesLater (Goes bytes q) = Unit {0}
LeavesLater (Ends bytes after) = after.first_line ≡ false
LeavesLater (Refused e) = Unit {0}

unless_later : (o : Option ParsingError) (s : Step) → LeavesLater s → LeavesLater (unless_refused o s)
unless_later None s h = h
unless_later (Some e) s h = tt

module _ (engine : Engine) (set : SyntaxSet) (line : List ℕ) where
  step_later : (p : Position) (choice : Choice) → LeavesLater (step engine set line p choice)
  step_later p (Take m) = unless_later (refusal set m.pattern) (Goes (scopes_passed engine set p.levels p.place m) (position_after set line p m)) tt
  step_later p Skip = tt
  step_later p End = refl

  turn_in_later : (p : Position) (top : Level) (o : Option Context) → LeavesLater (turn_in engine set line p top o)
  turn_in_later p top None = tt
  turn_in_later p top (Some c) =
      unless_later (missing set (prototypes_in p c)) (step engine set line p (winner line p (live engine line p (chain set p top c))))
      (step_later p (winner line p (live engine line p (chain set p top c))))

  turn_on_later : (p : Position) (o : Option Level) → LeavesLater (turn_on engine set line p o)
  turn_on_later p None = refl
  turn_on_later p (Some top) = turn_in_later p top (context_at set top.context)

  turn_later : (p : Position) → LeavesLater (turn engine set line p)
  unfolding turn
  turn_later p = turn_on_later (trimmed p) (last p.levels)

  pub reads_later : (p : Position) (bytes : List Scopes) (after : Standing) (n : ℕ) → Reads engine set line p bytes after n → after.first_line ≡ false
  reads_later p bytes after n (ends e) = let k : LeavesLater (Ends bytes after) = rw e at (turn_later p) in k
  reads_later p bytes after n (goes {q = q} {rest = rest} {n = m} e r) = reads_later q rest after m r

later_open : (set : SyntaxSet) (state : Standing) → state.first_line ≡ false → HasPlainStart set state
later_open set state e = rw e (ap (λ (l : Scopes). record { clear_stack = (stack_of set state.levels).clear_stack; scopes = l }) (append-nil (stack_of set state.levels).scopes))

answer_open : (engine : Engine) (set : SyntaxSet) (line : List ℕ) (state after : Standing) (answer : Answer)
    → HasPlainStart set state → Answers engine set line state answer after → HasPlainStart set after
answer_open engine set line state after answer h (accepts {bytes = bytes} {turns = n} r) = later_open set after (reads_later engine set line (at_start state) bytes after n r.reads)
answer_open engine set line state after answer h (refuses r) = h

pub stack_is_open : StackIsOpen
stack_is_open engine set lines state after answers h none = h
stack_is_open engine set lines state after answers h (one_more {line = line} {lines = rest} {next = next} {answer = answer} {answers = others} a r) =
    stack_is_open engine set rest next after others (answer_open engine set line state next answer h a) r
