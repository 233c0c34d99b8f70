-- One turn, a whole line, and lines one after the other.
use Rattle.std.specs.Prelude.{◌≡◌, ◌≢◌, ℕ, ◌+◌, ◌-◌, true, false, List, [], ◌∷◌, ◌++◌, length, take, replicate, codes, Option, Some, None, if◌then◌else◌}
use Rattle.std.specs.Option.{option_map, option_map_or}
use Rattle.syntect_parsing.specs.syntect_grammar_contexts.Contexts.{named_in}
use Rattle.syntect_reading_choice.specs.Engine.{Engine}
use Rattle.syntect_parsing.specs.syntect_grammar.Contexts.{context_at, part_of}
use Rattle.syntect_reading_choice.specs.Chain.{chain, prototypes_in, last}
use Rattle.syntect_parsing.specs.Turn.{position_after, skipped, trimmed}
use Rattle.syntect_reading_choice.specs.Turn.{Choice, Take, Skip, End, live, winner, missing, refusal, char_len}
use Rattle.syntect_parsing.specs.Scopes.{Scopes, scopes_passed}
use Rattle.syntect_parsing.specs.Visible.{visible}
use Rattle.syntect_parsing.specs.Stacks.{onto, stack_of}
use Rattle.syntect_parsing.specs.syntect_scope.Stack.{plain}
use Rattle.syntect_parsing.specs.syntect_scope.declared.stack.ScopeStack.{ScopeStack}
use Rattle.syntect_parsing.specs.syntect_grammar_contexts.declared.context.ContextId.{ContextId}
use Rattle.syntect_parsing.specs.syntect_grammar_contexts.declared.context.Context.{Context}
use Rattle.syntect_parsing.specs.syntect_grammar_contexts.declared.syntax_reference.SyntaxReference.{SyntaxReference}
use Rattle.syntect_parsing.specs.syntect_grammar.declared.syntax_set.SyntaxSet.{SyntaxSet}
use Rattle.syntect_parsing.specs.States.{Standing}
use Rattle.syntect_reading_choice.specs.declared.level.Level.{Level}
use Rattle.syntect_reading_choice.specs.declared.position.Position.{Position}
use Rattle.syntect_parsing.specs.syntect_grammar_contexts.declared.error.ParsingError.{ParsingError}
use Rattle.syntect_parsing.specs.syntect_grammar_contexts.declared.error.ParsingError.TheVariants as error

-- What a turn makes: the scopes of the bytes that it passed, and how it goes on.
-- Or the line is refused.
pub data Step : Type 0 where
  Goes : List Scopes → Position → Step
  Ends : List Scopes → Standing → Step
  Refused : ParsingError → Step

-- the state that a line leaves
abbrev pub state_left : Position → Standing
state_left p = record { levels = p.levels; cuts = p.cuts; first_line = false }

-- the first turn of a line
abbrev pub at_start : Standing → Position
at_start s = record { levels = s.levels; cuts = s.cuts; place = 0; last = None; idle = 0 }

-- the line ends, the bytes left have the visible scopes
abbrev pub ended : SyntaxSet → List ℕ → Position → Step
ended set line p = Ends (replicate (length line - p.place) (visible set p.levels)) (state_left p)

-- a step, if nothing refuses it
abbrev pub unless_refused : Option ParsingError → Step → Step
unless_refused None s = s
unless_refused (Some e) s = Refused e

-- the answer to a line
pub data Answer : Type 0 where
  Accepted : List Scopes → Answer
  RefusedBy : ParsingError → Answer

module _ (engine : Engine) where
  -- what a turn with this choice makes
  abbrev pub step : SyntaxSet → List ℕ → Position → Choice → Step
  step set line p (Take m) =
      unless_refused (refusal set m.pattern)
      (Goes (scopes_passed engine set p.levels p.place m) (position_after set line p m))
  step set line p Skip =
      Goes (replicate (char_len line p.place) (visible set p.levels)) (skipped line p)
  step set line p End = ended set line p

  -- a turn on this top level, whose context the set may lack: the chain's prototypes have to be in
  -- the set too
  abbrev pub turn_in : SyntaxSet → List ℕ → Position → Level → Option Context → Step
  turn_in set line p top None = Refused (error.MissingContext top.context)
  turn_in set line p top (Some c) =
      unless_refused (missing set (prototypes_in p c))
      (step set line p (winner line p (live engine line p (chain set p top c))))

  -- a turn on this top level, or on none: then the line ends
  abbrev pub turn_on : SyntaxSet → List ℕ → Position → Option Level → Step
  turn_on set line p None = ended set line p
  turn_on set line p (Some top) = turn_in set line p top (context_at set top.context)

  -- one turn: cuts are dropped first
  unfoldable pub turn : SyntaxSet → List ℕ → Position → Step
  turn set line p = turn_on set line (trimmed p) (last p.levels)

  -- The turns from a position on up to the end: the scopes of each byte, the state left, and how
  -- many turns.
  pub data Reads (set : SyntaxSet) (line : List ℕ) : Position → List Scopes → Standing → ℕ
      → Type 0 where
    ends : {p : Position} {bytes : List Scopes} {after : Standing}
        → turn set line p ≡ Ends bytes after → Reads set line p bytes after 1
    goes : {p q : Position} {bytes rest : List Scopes} {after : Standing} {n : ℕ}
        → turn set line p ≡ Goes bytes q → Reads set line q rest after n
        → Reads set line p (bytes ++ rest) after (n + 1)

  -- The turns from a position on up to a refusal, and how many.
  pub data Refuses (set : SyntaxSet) (line : List ℕ) : Position → ParsingError → ℕ → Type 0 where
    now : {p : Position} {e : ParsingError} → turn set line p ≡ Refused e → Refuses set line p e 1
    later : {p q : Position} {bytes : List Scopes} {e : ParsingError} {n : ℕ}
        → turn set line p ≡ Goes bytes q → Refuses set line q e n → Refuses set line p e (n + 1)

  -- the turns from a position on come to another one
  pub data Reaches (set : SyntaxSet) (line : List ℕ) : Position → Position → Type 0 where
    here : {p : Position} → Reaches set line p p
    further : {p q r : Position} {bytes : List Scopes} → turn set line p ≡ Goes bytes q
        → Reaches set line q r → Reaches set line p r

  -- a line read from a state
  pub record ReadsLine (set : SyntaxSet) (line : List ℕ) (state : Standing) (bytes : List Scopes)
      (after : Standing) (turns : ℕ) : Type 0 where
    pub on_levels : state.levels ≢ []
    pub reads : Reads set line (at_start state) bytes after turns

  -- a line refused at a state
  pub data RefusesLine (set : SyntaxSet) (line : List ℕ) (state : Standing) : ParsingError → ℕ
      → Type 0 where
    no_level : state.levels ≡ [] → RefusesLine set line state error.MissingMainContext 0
    in_turn : {e : ParsingError} {n : ℕ} → state.levels ≢ [] → Refuses set line (at_start state) e n
        → RefusesLine set line state e n

  -- the answer to a line and the state after it: a refused line leaves the state
  pub data Answers (set : SyntaxSet) (line : List ℕ) (state : Standing) : Answer → Standing
      → Type 0 where
    accepts : {bytes : List Scopes} {after : Standing} {turns : ℕ}
        → ReadsLine set line state bytes after turns → Answers set line state (Accepted bytes) after
    refuses : {e : ParsingError} {turns : ℕ} → RefusesLine set line state e turns
        → Answers set line state (RefusedBy e) state

  -- the answers to lines one after the other
  pub data AnswersAll (set : SyntaxSet) : List (List ℕ) → Standing → List Answer → Standing
      → Type 0 where
    none : {state : Standing} → AnswersAll set [] state [] state
    one_more : {line : List ℕ} {lines : List (List ℕ)} {state next after : Standing}
        {answer : Answer} {answers : List Answer}
        → Answers set line state answer next → AnswersAll set lines next answers after
        → AnswersAll set (line ∷ lines) state (answer ∷ answers) after

-- a syntax's first state: the one level `__start`
abbrev pub start : ContextId → Standing
start id =
    record {
      levels = record { context = id; prototypes = []; opening = None } ∷ [];
      cuts = [];
      first_line = true;
    }

-- the number of a syntax's `__start`, if it has one, and the state that reading it begins with
abbrev pub start_id : SyntaxReference → Option ContextId
start_id syntax = named_in syntax.index syntax.names (codes "__start")

-- the state that reading with a syntax begins with, if it has a `__start`
abbrev pub start_of : SyntaxReference → Option Standing
start_of syntax = option_map start (start_id syntax)

-- ---- the stack that a line's operations are applied to ----

-- before the first accepted line it is empty, and then that of the levels
abbrev pub stack_before : SyntaxSet → Standing → ScopeStack
stack_before set state = if state.first_line then plain [] else stack_of set state.levels

-- what the first accepted line pushes at 0: the first `meta_content_scope` scope of the top context
abbrev pub first_push : SyntaxSet → Standing → Scopes
first_push set state =
    if state.first_line
    then take 1 (option_map_or (λ l. part_of (λ c. c.meta_content_scope) set l.context)
    (last state.levels) []) else []

-- what has to hold for the operations to show the open scopes on a first line, and holds on each
-- later one: `__start` clears nothing, has no `meta_scope` and at most one content scope
abbrev pub HasPlainStart : SyntaxSet → Standing → Type 0
HasPlainStart set state =
    onto (stack_before set state) (first_push set state) ≡ stack_of set state.levels
