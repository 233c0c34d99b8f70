-- Parts of a set that no reference leads out of, and sets that have the same contexts there.
pub use Rattle.syntect_shelf.specs.Places.{Each}
use Rattle.std.specs.Prelude.{◌≡◌, ◌↔◌, ℕ, Bool, true, List, ◌∷◌, Some}
use Rattle.std.specs.List.{filter_map}
use Rattle.std.specs.Option.{option_to_list}
use Rattle.syntect_closed.specs.syntect_grammar_contexts.Contexts.{named, target}
use Rattle.syntect_closed.specs.syntect_reading_choice.Engine.{Engine}
use Rattle.syntect_closed.specs.syntect_grammar.Contexts.{context_at}
use Rattle.syntect_parsing.specs.Line.{Answer, AnswersAll}
use Rattle.syntect_closed.specs.syntect_grammar_contexts.declared.context.ContextId.{ContextId}
use Rattle.syntect_closed.specs.syntect_grammar_contexts.declared.context.Pattern.{Pattern}
use Rattle.syntect_closed.specs.syntect_grammar_contexts.declared.context.Pattern.TheVariants.{Match, Include}
use Rattle.syntect_closed.specs.syntect_grammar_contexts.declared.context.Context.{Context}
use Rattle.syntect_closed.specs.syntect_reading_choice.declared.level.Level.{Level}
use Rattle.syntect_parsing.specs.declared.parser.Standing.{Standing}
use Rattle.syntect_closed.specs.syntect_grammar.declared.syntax_set.SyntaxSet.{SyntaxSet}

-- a part of a set: a test of the numbers of contexts that belong to it
abbrev pub Part : Type 0
Part = ContextId → Bool

-- the contexts of these numbers are of the part
abbrev pub AreIn : Part → List ContextId → Type 0
AreIn part ids = Each (λ id. part id ≡ true) ids

-- the contexts that an entry leads to, those that its references are resolved to
abbrev pub leads_of : Pattern → List ContextId
leads_of (Match m) = filter_map target (named m)
leads_of (Include r) = option_to_list (target r)

-- a context leads to nothing but the part, by its entries or by its prototype
pub record StaysIn (part : Part) (c : Context) : Type 0 where
  pub entries : Each (λ p. AreIn part (leads_of p)) c.patterns
  pub prototype : AreIn part (option_to_list c.prototype)

-- no context of the part leads out of it
abbrev pub IsClosedPart : SyntaxSet → Part → Type 0
IsClosedPart set part = (id : ContextId) (c : Context) → part id ≡ true → context_at set id ≡ Some c
    → StaysIn part c

-- the sets have the same contexts in the part
abbrev pub AgreeOn : Part → SyntaxSet → SyntaxSet → Type 0
AgreeOn part a b = (id : ContextId) → part id ≡ true → context_at b id ≡ context_at a id

-- each open level is of the part, with its prototypes
abbrev pub StandsIn : Part → Standing → Type 0
StandsIn part state = Each (λ (l : Level). AreIn part (l.context ∷ l.prototypes)) state.levels

-- Reading never leaves a closed part: two sets that agree there answer lines alike, by the same
-- scopes and the same refusals, and lines lead from states of the part to such states.
abbrev pub ClosedReadAlike : Type 0
ClosedReadAlike =
    (engine : Engine) (part : Part) (a b : SyntaxSet) (lines : List (List ℕ))
    (state after : Standing) (answers : List Answer)
    → IsClosedPart a part → AgreeOn part a b → StandsIn part state
    → (AnswersAll engine a lines state answers after → StandsIn part after)
    × (AnswersAll engine a lines state answers after
    ↔ AnswersAll engine b lines state answers after)
