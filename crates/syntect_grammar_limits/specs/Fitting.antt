-- What keeps within limits: how long the patterns of a grammar are with their variables expanded
-- and the uses of these counted, each and together.
use Rattle.std.specs.Prelude.{◌≡◌, ℕ, ◌<◌, ◌≤◌, ◌+◌, false, List, [], ◌∷◌, ◌++◌, length, codes, flat_map, Option, Some, None, unwrap_or, Ok, Err}
use Rattle.std.specs.List.{All, sum_by}
use Rattle.syntect_yaml.specs.Node.{Node, text_of}
use Rattle.syntect_yaml.specs.Yaml.{deepest}
use Rattle.syntect_yaml.specs.declared.value.Scalar.{Scalar}
use Rattle.syntect_grammar_limits.specs.syntect_grammar_rewrite.Variables.{Variables, expanded}
use Rattle.syntect_grammar_limits.specs.syntect_grammar_rewrite.Lengths.{with_uses}
use Rattle.syntect_grammar_limits.specs.syntect_base.declared.limits.Limits.{Limits}
use Rattle.syntect_grammar_limits.specs.syntect_base.declared.limits.LimitReached.{LimitReached}
use Rattle.syntect_grammar_limits.specs.syntect_base.declared.limits.LimitReached.TheVariants as reached
use Rattle.syntect_grammar_limits.specs.Limited.{Left, lets_all, left_of_value}
use Rattle.syntect_grammar_limits.specs.syntect_grammar_loader.Loading.{variables_at}
use Rattle.syntect_grammar_limits.specs.syntect_grammar_loader.LoadingValues.{list_in, map_in, at}
use Rattle.syntect_grammar_limits.specs.Patterns.{of_item, of_context}

-- ---- the patterns of a grammar ----

abbrev pub of_top : Option (List ℕ) → Option (List Node) → List (List ℕ)
of_top (Some name) (Some items) = flat_map (of_item (of_context deepest)) items
of_top (Some name) None = []
of_top None items = []

-- an entry that is text to list is a context
abbrev pub of_top_entry : Scalar × Node → List (List ℕ)
of_top_entry e = of_top (text_of e.0) (list_in e.1)

-- the texts of all its patterns, as they were written, in order
abbrev pub patterns_of : Node → List (List ℕ)
patterns_of v = flat_map of_top_entry (unwrap_or (at map_in (codes "contexts") v) [])

-- ---- what fits ----

-- how many bytes a text has with its variables expanded, and how many uses of variables are come to
-- for that
abbrev pub counted_length : Variables → List ℕ → ℕ
counted_length variables t = length (with_uses variables t)

-- with their variables expanded, and their uses counted, these patterns have at most as many bytes
-- each as the limit lets one have, and together at most so many
pub record Fit
    (limits : Limits) (variables : Variables) (most : ℕ) (patterns : List (List ℕ))
    : Type 0 where
  pub each : All (λ t. counted_length variables t ≤ limits.pattern) patterns
  pub together : sum_by (counted_length variables) patterns ≤ most

-- the pattern at which a limit is reached
abbrev pub pattern_at : LimitReached → List ℕ
pattern_at reached.Text = []
pattern_at (reached.Pattern place) = place.pattern
pattern_at (reached.Patterns place) = place.pattern
pattern_at reached.Folder = []

-- the limit that is named is passed by the pattern there, after these
abbrev pub IsPassed : Limits → Variables → ℕ → List (List ℕ) → LimitReached → Type 0
IsPassed limits variables most before reached.Text = ⊥
IsPassed limits variables most before (reached.Pattern place) =
    limits.pattern < counted_length variables place.pattern
IsPassed limits variables most before (reached.Patterns place) =
    most < sum_by (counted_length variables) (before ++ place.pattern ∷ [])
IsPassed limits variables most before reached.Folder = ⊥

-- of these patterns those before the one at which the limit is reached fit,
-- and that one passes the limit
pub record Passes
    (limits : Limits) (variables : Variables) (most : ℕ) (patterns : List (List ℕ))
    (r : LimitReached)
    : Type 0 where
  pub before : List (List ℕ)
  pub after : List (List ℕ)
  pub in_order : patterns ≡ before ++ pattern_at r ∷ after
  pub fit : Fit limits variables most before
  pub passed : IsPassed limits variables most before r

-- where something is left, the patterns fit and leave that;
-- else they pass the limit that is reached
abbrev pub Tells : Limits → Variables → ℕ → List (List ℕ) → Left → Type 0
Tells limits variables most patterns (Ok left) =
    Fit limits variables most patterns
    × (sum_by (counted_length variables) patterns + left ≡ most)
Tells limits variables most patterns (Err r) = Passes limits variables most patterns r

-- Under limits of patterns a grammar is refused exactly where the patterns pass one, at the first
-- that does.
abbrev pub LimitsTell : Type 0
LimitsTell =
    (limits : Limits) (v : Node)
    → lets_all limits ≡ false
    → Tells limits (variables_at v) limits.patterns (patterns_of v) (left_of_value limits v)

-- A text is counted with no fewer bytes than it has with its variables expanded.
abbrev pub BytesCounted : Type 0
BytesCounted =
    (variables : Variables) (t : List ℕ)
    → length (expanded variables t) ≤ counted_length variables t
