-- Where a limit is reached while a grammar's patterns are expanded, in order: what is left of the
-- bytes of all patterns is counted down. A use of a variable counts as a byte.
use Rattle.std.specs.Prelude.{◌≡◌, ℕ, suc, ◌-◌, ◌^◌, ◌==◌, Bool, true, false, ◌&&◌, nat_le, nat_lt, min, if◌then◌else◌, List, [], ◌∷◌, length, codes, Option, Some, None, unwrap_or, Result, Ok, Err}
use Rattle.syntect_yaml.specs.Node.{Node, text_of}
use Rattle.syntect_yaml.specs.Yaml.{yaml_of, deepest}
use Rattle.syntect_yaml.specs.declared.value.Scalar.{Scalar}
use Rattle.syntect_grammar_limits.specs.syntect_grammar_rewrite.Variables.{Variables}
use Rattle.syntect_grammar_limits.specs.syntect_grammar_rewrite.Lengths.{with_uses, length_within}
use Rattle.syntect_grammar_limits.specs.syntect_base.declared.limits.Limits.{Limits}
use Rattle.syntect_grammar_limits.specs.syntect_base.declared.limits.PatternPlace.{PatternPlace}
use Rattle.syntect_grammar_limits.specs.syntect_base.declared.limits.LimitReached.{LimitReached}
use Rattle.syntect_grammar_limits.specs.syntect_base.declared.limits.LimitReached.TheVariants as reached
use Rattle.syntect_grammar_limits.specs.syntect_base.declared.limits.LoadWithinError.{LoadWithinError}
use Rattle.syntect_grammar_limits.specs.syntect_base.declared.limits.LoadWithinError.TheVariants as error
use Rattle.syntect_grammar_limits.specs.syntect_base.declared.syntax.ParseSyntaxError.TheVariants.{Memory}
use Rattle.syntect_grammar_limits.specs.syntect_grammar_loader.Loading.{variables_at}
use Rattle.syntect_grammar_limits.specs.syntect_grammar_loader.LoadingSteps.{Refusal, Fails}
use Rattle.syntect_grammar_limits.specs.syntect_grammar_loader.LoadingValues.{list_in, map_in, at}
use Rattle.syntect_grammar_limits.specs.Patterns.{of_item, of_context}
use Rattle.syntect_grammar_limits.specs.syntect_grammar_loader.declared.definition.SyntaxDefinition.{SyntaxDefinition}

-- what is left, or the limit that is reached
abbrev pub Left : Type 0
Left = Result ℕ LimitReached

-- what is left after one is counted on from
abbrev pub then_count : Left → (ℕ → Left) → Left
then_count (Ok left) f = f left
then_count (Err r) f = Err r

-- each of a list is counted, in order
abbrev pub count_each : {A : Type 0} → (ℕ → A → Left) → ℕ → List A → Left
count_each f left [] = Ok left
count_each f left (x ∷ xs) = then_count (f left x) (λ n. count_each f n xs)

-- no one pattern may have as many bytes as are left for all
abbrev pub reached_at : Bool → PatternPlace → LimitReached
reached_at true place = reached.Pattern place
reached_at false place = reached.Patterns place

abbrev pub left_after : LimitReached → ℕ → Option ℕ → Left
left_after r left (Some n) = Ok (left - n)
left_after r left None = Err r

-- over the limits and the variables
module _ (limits : Limits) (variables : Variables) where
  -- A pattern may have as many bytes, its uses of variables with them, as one may have, and as are
  -- left for all. Where it has more, the smaller is reached.
  abbrev pub count_pattern : List ℕ → ℕ → ℕ → List ℕ → Left
  count_pattern context item left pattern =
      left_after
      (reached_at (nat_le limits.pattern left)
      (record { context = context; item = item; pattern = pattern }))
      left (length_within (min limits.pattern left) (with_uses variables pattern))

  abbrev pub count_item : List ℕ → ℕ → ℕ → Node → Left
  count_item context item left v =
      count_each (count_pattern context item) left (of_item (of_context deepest) v)

  -- the items of a context from the one with this number on
  abbrev pub count_items : List ℕ → ℕ → ℕ → List Node → Left
  count_items context item left [] = Ok left
  count_items context item left (v ∷ vs) =
      then_count (count_item context item left v) (λ n. count_items context (suc item) n vs)

  abbrev pub count_context : ℕ → Option (List ℕ) → Option (List Node) → Left
  count_context left (Some name) (Some items) = count_items name 0 left items
  count_context left (Some name) None = Ok left
  count_context left None items = Ok left

  abbrev pub count_entry : ℕ → Scalar × Node → Left
  count_entry left e = count_context left (text_of e.0) (list_in e.1)

-- patterns may have any number of bytes
abbrev pub lets_all : Limits → Bool
lets_all limits = limits.pattern == 2 ^ 64 - 1 && limits.patterns == 2 ^ 64 - 1

-- what the patterns of a value leave
abbrev pub left_of_value : Limits → Node → Left
left_of_value limits v =
    if lets_all limits then Ok limits.patterns
    else count_each (count_entry limits (variables_at v)) limits.patterns
    (unwrap_or (at map_in (codes "contexts") v) [])

abbrev pub left_of_read : Limits → Option (Option Node) → Left
left_of_read limits None = Ok limits.patterns
left_of_read limits (Some None) = Ok limits.patterns
left_of_read limits (Some (Some v)) = left_of_value limits v

-- what the patterns of a text leave, or the limit that it reaches first
abbrev pub left_of : Limits → List ℕ → Left
left_of limits text =
    if nat_lt limits.text (length text) then Err reached.Text
    else left_of_read limits (yaml_of text)

-- ---- results ----

-- Within the limits the result is the answer without them, and leaves this repository; where one is
-- reached, that is the result, unless memory ran out.
abbrev pub LoadsWithin : Left → Result (SyntaxDefinition × List (List ℕ)) Refusal
    → Result SyntaxDefinition LoadWithinError → List (List ℕ) → Type 0
LoadsWithin (Ok left) answer (Ok d) repository = answer ≡ Ok (d, repository)
LoadsWithin (Ok left) answer (Err (error.Refused e)) repository = Fails answer e
LoadsWithin (Ok left) answer (Err (error.LimitReached r)) repository = ⊥
LoadsWithin (Err r) answer (Ok d) repository = ⊥
LoadsWithin (Err r) answer (Err (error.Refused e)) repository = e ≡ Memory
LoadsWithin (Err r) answer (Err (error.LimitReached s)) repository = s ≡ r

-- ---- For proofs and private functions alone ----

-- the result is what is left, unless memory ran out
abbrev pub Counts : Result ℕ LoadWithinError → Left → Type 0
Counts (Ok left) answer = answer ≡ Ok left
Counts (Err (error.LimitReached r)) answer = answer ≡ Err r
Counts (Err (error.Refused e)) answer = e ≡ Memory
