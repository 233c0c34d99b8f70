-- The patterns of a context, includes walked.
use Rattle.std.specs.Prelude.{◌≡◌, ℕ, zero, suc, ◌+◌, true, false, List, [], ◌∷◌, ◌++◌, Option, Some, None, if◌then◌else◌}
use Rattle.std.specs.List.{list_any}
use Rattle.syntect_grammar.specs.syntect_grammar_contexts.Contexts.{is_same, target, count_contexts}
use Rattle.syntect_grammar.specs.Contexts.{contexts_of, context_at, part_of}
use Rattle.syntect_grammar.specs.syntect_grammar_contexts.declared.context.ContextId.{ContextId}
use Rattle.syntect_grammar.specs.syntect_grammar_contexts.declared.context.ContextReference.{ContextReference}
use Rattle.syntect_grammar.specs.syntect_grammar_contexts.declared.context.MatchPattern.{MatchPattern}
use Rattle.syntect_grammar.specs.syntect_grammar_contexts.declared.context.Pattern.{Pattern}
use Rattle.syntect_grammar.specs.syntect_grammar_contexts.declared.context.Pattern.TheVariants.{Match, Include}
use Rattle.syntect_grammar.specs.syntect_grammar_contexts.declared.context.Context.{Context}
use Rattle.syntect_grammar.specs.declared.syntax_set.SyntaxSet.{SyntaxSet}

-- a context's own entries, nothing where the set lacks it
abbrev pub entries : SyntaxSet → ContextId → List Pattern
entries = part_of (λ c. c.patterns)

-- an include gives its target's patterns, and nothing where it is unresolved or its target is on
-- the include path
abbrev pub included : (ContextId → List MatchPattern) → List ContextId → Option ContextId
    → List MatchPattern
included inner path None = []
included inner path (Some id) = if list_any (is_same id) path then [] else inner id

-- entries in order, includes walked in place
abbrev pub walk_patterns : (ContextId → List MatchPattern) → List ContextId → List Pattern
    → List MatchPattern
walk_patterns inner path [] = []
walk_patterns inner path (Match m ∷ ps) = m ∷ walk_patterns inner path ps
walk_patterns inner path (Include r ∷ ps) =
    included inner path (target r) ++ walk_patterns inner path ps

-- entries that were reached by this include path, which holds the targets of the
-- includes that were followed
abbrev pub walk : ℕ → SyntaxSet → List ContextId → List Pattern → List MatchPattern
walk zero set path ps = []
walk (suc room) set path ps =
    walk_patterns (λ id. walk room set (path ++ id ∷ []) (entries set id)) path ps

-- An include path has no context twice, and only its last may be one that the set lacks: the room
-- is never felt.
abbrev pub room_in : SyntaxSet → ℕ
room_in set = count_contexts (contexts_of set) + 1

-- the patterns of a context with these entries, which may be one that the set doesn't hold
abbrev pub patterns_in : SyntaxSet → List Pattern → List MatchPattern
patterns_in set ps = walk (room_in set) set [] ps

-- the patterns of the context of this number, which stands on its own include path
abbrev pub patterns_of : SyntaxSet → ContextId → List MatchPattern
patterns_of set id = walk (room_in set) set (id ∷ []) (entries set id)

-- ---- the same walk as a relation ----

-- an include that gives nothing: it is unresolved, the set lacks its target, or that is on the
-- include path
pub data GivesNothing (set : SyntaxSet) (path : List ContextId)
    (r : ContextReference) : Type 0 where
  unresolved : target r ≡ None → GivesNothing set path r
  lacking : {id : ContextId} → target r ≡ Some id → context_at set id ≡ None
      → GivesNothing set path r
  around : {id : ContextId} → target r ≡ Some id → list_any (is_same id) path ≡ true
      → GivesNothing set path r

-- the walk of these entries, reached by this include path, gives these patterns
pub data Walks (set : SyntaxSet) : List ContextId → List Pattern → List MatchPattern → Type 0 where
  ended : {path : List ContextId} → Walks set path [] []
  own : {path : List ContextId} {m : MatchPattern} {ps : List Pattern} {ms : List MatchPattern}
      → Walks set path ps ms → Walks set path (Match m ∷ ps) (m ∷ ms)
  passed_over : {path : List ContextId} {r : ContextReference} {ps : List Pattern}
      {ms : List MatchPattern}
      → GivesNothing set path r → Walks set path ps ms → Walks set path (Include r ∷ ps) ms
  followed : {path : List ContextId} {r : ContextReference} {id : ContextId} {c : Context}
      {ps : List Pattern} {inner ms : List MatchPattern}
      → target r ≡ Some id → list_any (is_same id) path ≡ false → context_at set id ≡ Some c
      → Walks set (path ++ id ∷ []) c.patterns inner → Walks set path ps ms
      → Walks set path (Include r ∷ ps) (inner ++ ms)

-- The walk with its room gives what the rule gives, and nothing else does.
abbrev pub RoomIsNotFelt : Type 0
RoomIsNotFelt = (set : SyntaxSet) (entries : List Pattern)
    → Walks set [] entries (patterns_in set entries)
    × ((patterns : List MatchPattern) → Walks set [] entries patterns
    → patterns ≡ patterns_in set entries)

-- Nor has that of a context on its own include path.
abbrev pub RoomIsNotFeltAt : Type 0
RoomIsNotFeltAt = (set : SyntaxSet) (id : ContextId)
    → Walks set (id ∷ []) (entries set id) (patterns_of set id)
    × ((patterns : List MatchPattern) → Walks set (id ∷ []) (entries set id) patterns
    → patterns ≡ patterns_of set id)
