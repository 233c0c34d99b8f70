-- The selectors of a theme that set an attribute of a stack's style,
-- and the one of them that prevails.
use Rattle.std.specs.Prelude.{ℕ, suc, ◌==◌, nat_lt, ◌*◌, ◌^◌, Bool, true, false, ◌&&◌, ◌||◌, not, List, [], ◌∷◌, length, find, Option, Some, None}
use Rattle.std.specs.Option.{option_map}
use Rattle.std.specs.List.{filter_map, flat_map, list_all}
use Rattle.syntect_style.specs.syntect_scope.Atoms.{is_prefix}
use Rattle.syntect_style.specs.syntect_scope.Choice.{selector_score}
use Rattle.syntect_style.specs.syntect_scope.SelectorText.{sole_scope}
use Rattle.syntect_style.specs.syntect_scope.declared.selector.ScopeSelector.{ScopeSelector}
use Rattle.syntect_theme.specs.declared.style.StyleModifier.{StyleModifier}
use Rattle.syntect_theme.specs.declared.theme.Theme.{Theme}

-- ---- what a selector scores ----

-- A single rule is one whose selector has a sole scope: one path scope and no exclusion.

-- one place further, or here where there is none further
abbrev pub further : Bool → Option ℕ → Option ℕ
further here (Some place) = Some (suc place)
further true None = Some 0
further false None = None

-- the deepest place of a stack whose scope the given one begins; place 0 is the bottom
abbrev pub deepest : List ℕ → List (List ℕ) → Option ℕ
deepest scope [] = None
deepest scope (s ∷ stack) = further (is_prefix scope s) (deepest scope stack)

-- What a selector scores in a stack, and for a single rule its place.
pub record Score : Type 0 where
  pub power : ℕ
  pub place : Option ℕ

-- a single rule scores by its atoms, at its deepest place
abbrev pub single_score : List ℕ → List (List ℕ) → Option Score
single_score scope stack =
    option_map (λ place. record { power = length scope * 8 ^ place; place = Some place })
    (deepest scope stack)

-- every other selector scores by its least choice
abbrev pub other_score : ScopeSelector → List (List ℕ) → Option Score
other_score selector stack =
    option_map (λ power. record { power = power; place = None }) (selector_score selector stack)

-- none where the selector doesn't match
abbrev pub score_of : ScopeSelector → List (List ℕ) → Option Score
score_of selector stack = by_kind (sole_scope selector)
  where
    by_kind : Option (List ℕ) → Option Score
    by_kind (Some scope) = single_score scope stack
    by_kind None = other_score selector stack

-- ---- candidates ----

-- the value of a rule that sets the attribute, with the score of its selector
pub record Candidate (V : Type 0) : Type 0 where
  pub value : V
  pub score : Score

-- the candidate of a value and a score, where there are both
abbrev pub candidate : {V : Type 0} → Option V → Option Score → Option (Candidate V)
candidate (Some v) (Some score) = Some (record { value = v; score = score })
candidate None score = None
candidate (Some v) None = None

-- the candidates for an attribute, in the theme's order
abbrev pub candidates : {V : Type 0} → (StyleModifier → Option V) → Theme → List (List ℕ)
    → List (Candidate V)
candidates attribute theme stack =
    flat_map (λ item.
    filter_map (λ selector. candidate (attribute item.style) (score_of selector stack))
    item.scope.selectors) theme.scopes

-- ---- the one that prevails ----

-- of equal powers a single rule goes before others, and among these the lower place
abbrev pub goes_before : Option ℕ → Option ℕ → Bool
goes_before (Some p) (Some q) = nat_lt p q
goes_before (Some p) None = true
goes_before None place = false

-- the first score is of greater power than the second, or of equal power and goes before it
abbrev pub beats : Score → Score → Bool
beats a b = nat_lt b.power a.power || ((a.power == b.power) && goes_before a.place b.place)

-- the first candidate that none beats
abbrev pub prevailing : {V : Type 0} → List (Candidate V) → Option (Candidate V)
prevailing cs = find (λ c. list_all (λ d. not (beats d.score c.score)) cs) cs

-- the value of the candidate that prevails
abbrev pub winner : {V : Type 0} → (StyleModifier → Option V) → Theme → List (List ℕ) → Option V
winner attribute theme stack =
    option_map (λ c. c.value) (prevailing (candidates attribute theme stack))
