-- What the refusals of the small calls on contexts say.
use Rattle.std.specs.Prelude.{◌≡◌, ℕ, Option, Some, None}
use Rattle.syntect_grammar_contexts.specs.Contexts.{target, match_of}
use Rattle.syntect_grammar_contexts.specs.declared.context.ContextReference.{ContextReference}
use Rattle.syntect_grammar_contexts.specs.declared.context.Context.{Context}
use Rattle.syntect_grammar_contexts.specs.declared.context.ContextId.{ContextId}
use Rattle.syntect_grammar_contexts.specs.declared.error.ParsingError.{ParsingError}
use Rattle.syntect_grammar_contexts.specs.declared.error.ParsingError.TheVariants.{MissingContext, BadMatchIndex, UnresolvedContextReference, Memory}

-- no match pattern stands at this index
abbrev pub IsBadIndex : Context → ℕ → ParsingError → Type 0
IsBadIndex context index e = (match_of context index ≡ None) × (e ≡ BadMatchIndex index)

-- the reference isn't resolved, and is handed back unless memory ran out
abbrev pub IsUnresolved : ContextReference → ParsingError → Type 0
IsUnresolved r (UnresolvedContextReference q) = (target r ≡ None) × (q ≡ r)
IsUnresolved r Memory = target r ≡ None
IsUnresolved r _ = ⊥

-- the reference isn't resolved, or there is no context of its number among these
abbrev pub IsMissing : (ContextId → Option Context) → ContextReference → ParsingError → Type 0
IsMissing contexts r (MissingContext id) = (target r ≡ Some id) × (contexts id ≡ None)
IsMissing contexts r e = IsUnresolved r e

-- lack of memory, or this refusal
abbrev pub MayBe : Option ParsingError → ParsingError → Type 0
MayBe o Memory = Unit {0}
MayBe o e = o ≡ Some e
