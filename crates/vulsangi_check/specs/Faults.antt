-- Why a grammar isn't loaded.
use Rattle.std.specs.Prelude.{◌≡◌, ◌≢◌, List, ℕ, Option, Some, None, Result, Ok, Err}
use Rattle.syntect_grammar_limits.specs.Limited.{Left, LoadsWithin}
use Rattle.syntect_grammar_limits.specs.syntect_base.declared.limits.LoadWithinError.{LoadWithinError}
use Rattle.syntect_grammar_limits.specs.syntect_base.declared.limits.LoadWithinError.TheVariants as error
use Rattle.syntect_grammar_limits.specs.syntect_base.declared.syntax.ParseSyntaxError.TheVariants.{Memory}
use Rattle.syntect_grammar_limits.specs.syntect_grammar_loader.LoadingSteps.{Refusal}
use Rattle.syntect_grammar_limits.specs.syntect_grammar_loader.declared.definition.SyntaxDefinition.{SyntaxDefinition}

-- Where there is no fault, the text is loaded within the limits; where there is one, it is what the
-- text is refused with, and never lack of memory.
abbrev pub IsFaultOf : Left → Result (SyntaxDefinition × List (List ℕ)) Refusal
    → Option LoadWithinError → Type 0
IsFaultOf left answer None =
    (d : SyntaxDefinition) × (repository : List (List ℕ)) × LoadsWithin left answer (Ok d) repository
IsFaultOf left answer (Some e) =
    (repository : List (List ℕ)) × LoadsWithin left answer (Err e) repository
    × (e ≢ error.Refused Memory)
