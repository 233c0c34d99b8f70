-- Definitions that refer to contexts by their names alone.
use Rattle.std.specs.Prelude.{◌≡◌, ℕ, Bool, true, false, List, [], ◌∷◌, Option, None, Ok}
use Rattle.std.specs.List.{list_any}
use Rattle.syntect_grammar_contexts.specs.Contexts.{named}
use Rattle.syntect_grammar_loader.specs.Loading.{loaded}
use Rattle.syntect_grammar_contexts.specs.declared.context.ContextReference.{ContextReference}
use Rattle.syntect_grammar_contexts.specs.declared.context.ContextReference.TheVariants.{Direct}
use Rattle.syntect_grammar_contexts.specs.declared.context.Pattern.{Pattern}
use Rattle.syntect_grammar_contexts.specs.declared.context.Pattern.TheVariants.{Match, Include}
use Rattle.syntect_grammar_contexts.specs.declared.context.Context.{Context}
use Rattle.syntect_grammar_loader.specs.declared.definition.SyntaxDefinition.{SyntaxDefinition}

-- whether a reference is by number
abbrev pub is_direct : ContextReference → Bool
is_direct (Direct id) = true
is_direct r = false

-- no match of these entries names a context by its number
abbrev pub NamesNoNumber : List Pattern → Type 0
NamesNoNumber [] = Unit {0}
NamesNoNumber (Match m ∷ ps) = (list_any is_direct (named m) ≡ false) × NamesNoNumber ps
NamesNoNumber (Include r ∷ ps) = NamesNoNumber ps

-- no context of these names a context by its number, be it as prototype
abbrev pub KnowNoNumber : List (List ℕ × Context) → Type 0
KnowNoNumber [] = Unit {0}
KnowNoNumber (entry ∷ entries) =
    (entry.1.prototype ≡ None) × NamesNoNumber entry.1.patterns × KnowNoNumber entries

-- no match names a context by its number, and no context is given a prototype (includes are free)
abbrev pub AreByName : List SyntaxDefinition → Type 0
AreByName [] = Unit {0}
AreByName (d ∷ ds) = KnowNoNumber d.contexts × AreByName ds

-- A definition that was loaded names no context by its number, and gives none a prototype by hand.
abbrev pub LoadedByName : Type 0
LoadedByName =
    (text : List ℕ) (lines_include_newline : Bool) (fallback : Option (List ℕ))
    (repository : List (List ℕ)) (d : SyntaxDefinition) (left : List (List ℕ))
    → loaded text lines_include_newline fallback repository ≡ Ok (d, left) → KnowNoNumber d.contexts
