-- The contexts that a walk has entered, by marks.
use Rattle.std.specs.Prelude.{◌≡◌, Bool, true, List, Option, IfSome, slice_get, if◌then◌else◌}
use Rattle.std.specs.Global.{Vec}
use Rattle.std.specs.List.{list_any}
use Rattle.std.specs.Option.{option_and_then, option_map}
use Rattle.syntect_grammar_contexts.specs.Contexts.{is_same}
use Rattle.syntect_grammar_contexts.specs.declared.context.ContextId.{ContextId}

-- ---- What invariants alone rest on ----

-- the mark of a context, if it has one
abbrev pub mark_at : List (Vec Bool) → ContextId → Option Bool
mark_at marks id =
    option_and_then (λ row. slice_get row.items id.context_index) (slice_get marks id.syntax_index)

-- each mark says whether its context is among these
abbrev pub AreMarksOf : List (Vec Bool) → List ContextId → Type 0
AreMarksOf marks ids =
    (id : ContextId) → IfSome (mark_at marks id) (λ b. b ≡ list_any (is_same id) ids)

-- ---- For proofs and private functions alone ----

-- the mark of this context is this now, if it has one, and the others are as they were
abbrev pub SetsMark : ContextId → Bool → List (Vec Bool) → List (Vec Bool) → Type 0
SetsMark id value old new = (x : ContextId)
    → mark_at new x ≡ option_map (λ b. if is_same x id then value else b) (mark_at old x)

-- no context has a mark that isn't among these
abbrev pub NoneMarkedBeside : List (Vec Bool) → List ContextId → Type 0
NoneMarkedBeside marks ids =
    (id : ContextId) → IfSome (mark_at marks id) (λ b. b ≡ true → list_any (is_same id) ids ≡ true)
