-- Syntaxes that are looked for within a limit.
use Rattle.std.specs.Prelude.{◌≡◌, ◌<◌, ◌+◌, ℕ, List, length, drop, Some, None, Option}
use Rattle.syntect_grammar_limits.specs.syntect_base.Limiting.{limit_of}
use Rattle.syntect_grammar_limits.specs.syntect_base.Trees.{Answer, begins}
use Rattle.syntect_grammar_limits.specs.syntect_base.declared.limits.Limits.{Limits}
use Rattle.syntect_grammar.specs.Finding.{NotFoundFor, fits_line, found_by_file_name, last_fitting, without_mark}
use Rattle.syntect_grammar.specs.Link.{syntaxes_in}
use Rattle.syntect_grammar.specs.declared.error.Error.{Error}
use Rattle.syntect_grammar.specs.declared.error.Error.TheVariants.{Memory}
use Rattle.syntect_grammar.specs.declared.syntax_set.SyntaxSet.{SyntaxSet}
use Rattle.syntect_grammar_limits.specs.syntect_count.Meter.{Reading}
use Rattle.syntect_grammar_limits.specs.syntect_count.declared.stop.Stop.{Stop}
use Rattle.syntect_grammar_limits.specs.syntect_count.declared.stop.Stop.TheVariants as stop
use Rattle.syntect_grammar_limits.specs.declared.first_line_error.FindWithinError.{FindWithinError}
use Rattle.syntect_grammar_limits.specs.declared.first_line_error.FindWithinError.TheVariants.{Refused, LimitReached}
use Rattle.syntect_grammar_limits.specs.declared.first_line_error.FirstLineLimit.{FirstLineLimit}

-- none of the syntaxes after the index fits a line without a mark
abbrev pub NoneFitsBehind : SyntaxSet → List ℕ → ℕ → Type 0
NoneFitsBehind set line index =
    (index < length (syntaxes_in set))
    × (last_fitting (fits_line line) (drop (index + 1) (syntaxes_in set)) ≡ None)

-- memory ran out; or the limit was reached at a syntax after which none fits
abbrev pub NoneBehind : SyntaxSet → List ℕ → FindWithinError → Type 0
NoneBehind set line (Refused e) = e ≡ Memory
NoneBehind set line (LimitReached l) = NoneFitsBehind set line l.syntax

-- a limit that was reached is that of as many steps as were made
abbrev pub ReachesSteps : Limits → ℕ → FindWithinError → Type 0
ReachesSteps limits steps (Refused e) = Unit {0}
ReachesSteps limits steps (LimitReached l) = limit_of limits.steps ≡ Some steps

-- the same of a file, whose path tells nothing
abbrev pub NotFoundWithin : (Told : Answer → Type 0) → SyntaxSet → List ℕ → FindWithinError
    → Type 0
NotFoundWithin Told set path (Refused e) = NotFoundFor Told set path e
NotFoundWithin Told set path (LimitReached l) =
    (found_by_file_name set path ≡ None)
    × ((line : List ℕ) × Told (begins path line)
    × NoneFitsBehind set (without_mark line) l.syntax)

-- ---- For proofs and private functions alone ----

-- why the syntax at this index was not searched to the end
abbrev pub stopped : Stop → ℕ → FindWithinError
stopped stop.Memory index = Refused Memory
stopped stop.Spent index = LimitReached (record { syntax = index })

-- where the meter stopped the search no step is left
abbrev pub StopsSearch : Reading → FindWithinError → Type 0
StopsSearch r (Refused e) = Unit {0}
StopsSearch r (LimitReached l) = r.left ≡ Some 0
