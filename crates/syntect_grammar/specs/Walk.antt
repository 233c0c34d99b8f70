-- The patterns of a context, each context that includes lead to entered once.
use Rattle.std.specs.Prelude.{◌≡◌, ◌==◌, ◌||◌, Bool, List, length, drop, find, Option, Some, None, if◌then◌else◌}
use Rattle.std.specs.List.{list_any}
use Rattle.syntect_grammar.specs.syntect_grammar_contexts.Contexts.{is_same}
use Rattle.syntect_grammar.specs.Patterns.{entries}
use Rattle.syntect_grammar.specs.syntect_grammar_contexts.declared.context.ContextId.{ContextId}
use Rattle.syntect_grammar.specs.syntect_grammar_contexts.declared.context.Pattern.{Pattern}
use Rattle.syntect_grammar.specs.declared.syntax_set.SyntaxSet.{SyntaxSet}
use Rattle.syntect_grammar.specs.declared.walk.Frame.{Frame}

-- Two lists are alike to whoever looks for the first member that passes a test: they have the same
-- members, and the first places of these come in the same order.
abbrev pub FindsSame : {X : Type 0} → List X → List X → Type 0
FindsSame {X = X} xs ys = (test : X → Bool) → find test xs ≡ find test ys

-- ---- For proofs and private functions alone ----

-- a context that is walked and those of its entries that are left; all of them, when it is entered
abbrev pub frame : SyntaxSet → Frame → ContextId × List Pattern
frame set f = (f.id, drop f.next (entries set f.id))

abbrev pub frame_of : SyntaxSet → ContextId → ContextId × List Pattern
frame_of set id = (id, entries set id)

-- a context of which no entry was passed yet
abbrev pub at_first : ContextId → Frame
at_first id = record { id = id; next = 0 }

-- what an include enters: its target, unless that has no entries or was entered before
abbrev pub entering : SyntaxSet → List ContextId → Option ContextId → Option ContextId
entering set seen None = None
entering set seen (Some id) =
    if (length (entries set id) == 0) || list_any (is_same id) seen then None else Some id
