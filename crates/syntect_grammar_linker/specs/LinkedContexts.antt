-- What linking makes of contexts.
use Rattle.std.specs.Prelude.{ℕ, ◌+◌, Bool, List, [], ◌∷◌, map, Option}
use Rattle.std.specs.Option.{option_map}
use Rattle.syntect_grammar_linker.specs.References.{linked_reference}
use Rattle.syntect_grammar_linker.specs.Reached.{prototype_for, is_marked_in_set}
use Rattle.syntect_grammar_contexts.specs.declared.context.ContextId.{ContextId}
use Rattle.syntect_grammar_contexts.specs.declared.context.MatchOperation.{MatchOperation}
use Rattle.syntect_grammar_contexts.specs.declared.context.MatchOperation.TheVariants as op
use Rattle.syntect_grammar_contexts.specs.declared.context.MatchPattern.{MatchPattern}
use Rattle.syntect_grammar_contexts.specs.declared.context.Pattern.{Pattern}
use Rattle.syntect_grammar_contexts.specs.declared.context.Pattern.TheVariants.{Match, Include}
use Rattle.syntect_grammar_contexts.specs.declared.context.Context.{Context}
use Rattle.syntect_grammar_contexts.specs.declared.syntax_reference.SyntaxReference.{SyntaxReference}

-- an operation of the syntax of this index, with each of its references linked
abbrev pub linked_operation : List SyntaxReference → ℕ → MatchOperation → MatchOperation
linked_operation heads index (op.Push refs) = op.Push (map (linked_reference heads index) refs)
linked_operation heads index (op.Set refs) = op.Set (map (linked_reference heads index) refs)
linked_operation heads index op.Pop = op.Pop
linked_operation heads index op.None = op.None

-- a match pattern with its references linked: those of its operation, and its `with_prototype`
abbrev pub linked_match : List SyntaxReference → ℕ → MatchPattern → MatchPattern
linked_match heads index m =
    record m {
      operation = linked_operation heads index m.operation;
      with_prototype = option_map (linked_reference heads index) m.with_prototype;
    }

-- a pattern of a context, a match or an include, with its references linked
abbrev pub linked_pattern : List SyntaxReference → ℕ → Pattern → Pattern
linked_pattern heads index (Match m) = Match (linked_match heads index m)
linked_pattern heads index (Include r) = Include (linked_reference heads index r)

-- the context with its references linked, with this prototype and this mark of back references
abbrev pub context_with : List SyntaxReference → ℕ → Option ContextId → Bool → Context → Context
context_with heads index prototype uses_backrefs c =
    record c {
      prototype = prototype;
      uses_backrefs = uses_backrefs;
      patterns = map (linked_pattern heads index) c.patterns;
    }

-- the context of this number, linked
abbrev pub linked_context : List SyntaxReference → List (List Context) → ContextId → Context
    → Context
linked_context heads bodies id c =
    context_with heads id.syntax_index (prototype_for heads bodies id c)
    (is_marked_in_set heads bodies id) c

-- contexts of the syntax of an index, from this place on
abbrev pub linked_contexts : List SyntaxReference → List (List Context) → ℕ → ℕ → List Context
    → List Context
linked_contexts heads bodies index place [] = []
linked_contexts heads bodies index place (c ∷ cs) =
    linked_context heads bodies (record { syntax_index = index; context_index = place }) c
    ∷ linked_contexts heads bodies index (place + 1) cs
