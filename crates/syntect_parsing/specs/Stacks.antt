-- The stack of scopes while a line is read.
use Rattle.std.specs.Prelude.{◌≡◌, ℕ, ◌≤◌, List, [], ◌++◌, length, fold, Option, Some, None}
use Rattle.std.specs.List.{filter_map}
use Rattle.syntect_parsing.specs.syntect_scope.Stack.{plain, applied}
use Rattle.syntect_parsing.specs.syntect_scope.Replay.{Replay, bytes_to}
use Rattle.syntect_parsing.specs.syntect_scope.declared.stack.ClearAmount.{ClearAmount}
use Rattle.syntect_parsing.specs.syntect_scope.declared.stack.ScopeStackOp.TheVariants.{Clear}
use Rattle.syntect_parsing.specs.syntect_scope.declared.stack.ScopeStack.{ScopeStack}
use Rattle.syntect_parsing.specs.syntect_grammar.Contexts.{part_of}
use Rattle.syntect_parsing.specs.syntect_grammar_contexts.Contexts.{Scopes}
use Rattle.syntect_parsing.specs.syntect_grammar_contexts.declared.context.ContextId.{ContextId}
use Rattle.syntect_parsing.specs.Visible.{clearing}
use Rattle.syntect_reading_choice.specs.declared.level.Level.{Level}
use Rattle.syntect_parsing.specs.syntect_grammar.declared.syntax_set.SyntaxSet.{SyntaxSet}

-- scopes put on a stack
abbrev pub onto : ScopeStack → Scopes → ScopeStack
onto stack scopes = record stack { scopes = stack.scopes ++ scopes }

-- a stack without what an amount takes off it, which it remembers
abbrev pub after_clearing : Option ClearAmount → ScopeStack → ScopeStack
after_clearing None stack = stack
after_clearing (Some amount) stack = applied (Clear amount) stack

-- a context on a stack: it clears first, and then puts its `meta_scope` and its
-- `meta_content_scope` there
abbrev pub enter : SyntaxSet → ScopeStack → ContextId → ScopeStack
enter set stack id =
    onto (after_clearing (clearing set id) stack)
    (part_of (λ c. c.meta_scope ++ c.meta_content_scope) set id)

-- the stack of these levels, made from the bottom (its scopes are the visible ones: a law)
abbrev pub stack_of : SyntaxSet → List Level → ScopeStack
stack_of set levels = fold (λ stack l. enter set stack l.context) (plain []) levels

-- at a place the bytes before it have these scopes, and the stack is this one
pub record IsAt (r : Replay) (place : ℕ) (bytes : List Scopes) (scopes : ScopeStack) : Type 0 where
  pub before : bytes_to r place ≡ bytes
  pub stack : r.stack ≡ scopes
  pub count : length bytes ≡ place

-- how many levels have a context that clears
abbrev pub count_clearing : SyntaxSet → List Level → ℕ
count_clearing set levels = length (filter_map (λ l. clearing set l.context) levels)

-- a stack remembers at least as many cleared lists as there are levels whose context clears
abbrev pub Remembers : SyntaxSet → List Level → ScopeStack → Type 0
Remembers set levels stack = count_clearing set levels ≤ length stack.clear_stack
