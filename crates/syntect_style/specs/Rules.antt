-- The rules of a theme, the single ones apart from the others,
-- and the candidates among them in turn.
use Rattle.std.specs.Prelude.{◌≡◌, ℕ, ◌-◌, ◌*◌, ◌^◌, ◌<◌, List, [], ◌∷◌, ◌++◌, length, if◌then◌else◌, Option, Some, None}
use Rattle.std.specs.Option.{option_to_list}
use Rattle.std.specs.List.{filter_map, flat_map, slice_get}
use Rattle.syntect_style.specs.syntect_scope.declared.selector.ScopeSelector.{ScopeSelector}
use Rattle.syntect_style.specs.syntect_scope.Atoms.{is_prefix}
use Rattle.syntect_style.specs.syntect_scope.SelectorText.{sole_scope}
use Rattle.syntect_style.specs.Candidates.{single_score, other_score, Score, Candidate, candidate, beats}
use Rattle.syntect_style.specs.syntect_scope.Choice.{selector_score}
use Rattle.syntect_theme.specs.declared.style.Color.{Color}
use Rattle.syntect_theme.specs.declared.style.FontStyle.{FontStyle}
use Rattle.syntect_theme.specs.declared.style.StyleModifier.{StyleModifier}
use Rattle.syntect_theme.specs.declared.theme.ThemeItem.{ThemeItem}
use Rattle.syntect_theme.specs.declared.theme.Theme.{Theme}
use Rattle.syntect_style.specs.declared.others.Other.{Other}
use Rattle.syntect_style.specs.declared.scores.Rule.{Rule}
use Rattle.syntect_style.specs.declared.scores.SingleScore.{SingleScore}

-- a scope with the change that its rule makes
abbrev pub rule_of : Option (List ℕ) → StyleModifier → Option Rule
rule_of (Some scope) m = Some (record { scope = scope; style = m })
rule_of None m = None

-- the single rules of an item, in the order of its selectors
abbrev pub item_rules : ThemeItem → List Rule
item_rules item =
    filter_map (λ selector. rule_of (sole_scope selector) item.style) item.scope.selectors

-- the single rules of a theme, in its order
abbrev pub single_rules : Theme → List Rule
single_rules theme = flat_map item_rules theme.scopes

-- the score that a count of atoms has at a place
abbrev pub score_from : SingleScore → Score
score_from s = record { power = s.atoms * 8 ^ s.place; place = Some s.place }

-- a value with such a score as a candidate
abbrev pub candidate_from : {V : Type 0} → Option (SingleScore × V) → Option (Candidate V)
candidate_from None = None
candidate_from (Some c) = Some (record { value = c.1; score = score_from c.0 })

-- the one that stands so far, against one more
abbrev pub against : {V : Type 0} → Option (Candidate V) → Option (Candidate V)
    → Option (Candidate V)
against best None = best
against None (Some c) = Some c
against (Some b) (Some c) = if beats c.score b.score then Some c else Some b

-- the one that stands after some rules
abbrev pub after_rules : {V : Type 0} → (StyleModifier → Option V) → List (List ℕ)
    → Option (Candidate V) → List Rule → Option (Candidate V)
after_rules attribute stack best [] = best
after_rules attribute stack best (r ∷ rules) =
    after_rules attribute stack
    (against best (candidate (attribute r.style) (single_score r.scope stack))) rules

-- ---- one scope more on top ----

-- the value of a candidate, with its power
abbrev pub worth : {V : Type 0} → Option (Candidate V) → Option (V × ℕ)
worth None = None
worth (Some c) = Some (c.value, c.score.power)

-- a candidate at a place below this one
abbrev pub IsBelow : {V : Type 0} → ℕ → Option (Candidate V) → Type 0
IsBelow n None = Unit {0}
IsBelow n (Some c) = (p : ℕ) × (c.score.place ≡ Some p) × (p < n)

-- It is worth what the single rule is worth that prevails in a stack. Its place is one of the
-- stack, and where powers are zero need not be that rule's.
pub record IsWorthPrevailing (V : Type 0) (attribute : StyleModifier → Option V) (theme : Theme)
    (stack : List (List ℕ)) (c : Option (Candidate V)) : Type 0 where
  pub same : worth c ≡ worth (after_rules attribute stack None (single_rules theme))
  pub below : IsBelow (length stack) c

-- ---- the other rules ----

-- a selector that is no single rule, with the change that its rule makes
abbrev pub other_of : Option (List ℕ) → ScopeSelector → StyleModifier
    → Option (ScopeSelector × StyleModifier)
other_of (Some scope) selector m = None
other_of None selector m = Some (selector, m)

-- those of an item, in the order of its selectors
abbrev pub item_others : ThemeItem → List (ScopeSelector × StyleModifier)
item_others item =
    filter_map (λ selector. other_of (sole_scope selector) selector item.style) item.scope.selectors

-- those of a theme, in its order
abbrev pub other_rules : Theme → List (ScopeSelector × StyleModifier)
other_rules theme = flat_map item_others theme.scopes

-- the score of a power without a place
abbrev pub power_score : ℕ → Score
power_score power = record { power = power; place = None }

-- a value with such a score as a candidate
abbrev pub other_from : {V : Type 0} → Option (ℕ × V) → Option (Candidate V)
other_from None = None
other_from (Some c) = Some (record { value = c.1; score = power_score c.0 })

-- the one that stands after one of them more
abbrev pub after_other : {V : Type 0} → (StyleModifier → Option V) → List (List ℕ)
    → Option (Candidate V) → ScopeSelector × StyleModifier → Option (Candidate V)
after_other attribute stack best o =
    against best (candidate (attribute o.1) (other_score o.0 stack))

-- the one that stands after some of them
abbrev pub after_others : {V : Type 0} → (StyleModifier → Option V) → List (List ℕ)
    → Option (Candidate V) → List (ScopeSelector × StyleModifier) → Option (Candidate V)
after_others attribute stack best [] = best
after_others attribute stack best (o ∷ others) =
    after_others attribute stack (after_other attribute stack best o) others

-- the one that prevails among them
abbrev pub best_other : {V : Type 0} → (StyleModifier → Option V) → List (List ℕ)
    → List (ScopeSelector × StyleModifier) → Option (Candidate V)
best_other attribute stack others = after_others attribute stack None others

-- ---- which of them a scope on top can touch ----

-- each of these rules scores in the one stack what it scores in the other
abbrev pub ScoreAlike : List (ScopeSelector × StyleModifier) → List (List ℕ) → List (List ℕ)
    → Type 0
ScoreAlike [] a b = Unit {0}
ScoreAlike (o ∷ others) a b = (selector_score o.0 a ≡ selector_score o.0 b) × ScoreAlike others a b

-- for each attribute this is what the other rules of a theme come to in a stack
pub record AreOthers (theme : Theme) (stack : List (List ℕ))
    (of_text of_ground : Option (Candidate Color))
    (of_font : Option (Candidate FontStyle)) : Type 0 where
  pub foreground : of_text ≡ best_other (λ m. m.foreground) stack (other_rules theme)
  pub background : of_ground ≡ best_other (λ m. m.background) stack (other_rules theme)
  pub font_style : of_font ≡ best_other (λ m. m.font_style) stack (other_rules theme)

-- ---- What invariants alone rest on ----

-- the same as a highlighter holds it
abbrev pub rule_from : Other → ScopeSelector × StyleModifier
rule_from o = (o.selector, o.style)

-- the last scope of a path, as a single rule
abbrev pub last_rule : List (List ℕ) → StyleModifier → List Rule
last_rule path m = option_to_list (rule_of (slice_get path (length path - 1)) m)

-- the last scopes of a rule's exclusions and of its path
abbrev pub lasts_of : ScopeSelector × StyleModifier → List Rule
lasts_of o =
    flat_map (λ exclusion. last_rule exclusion.scopes o.1) o.0.excludes
    ++ last_rule o.0.path.scopes o.1

-- those of rules
abbrev pub last_rules : List (ScopeSelector × StyleModifier) → List Rule
last_rules others = flat_map lasts_of others

-- ---- For proofs and private functions alone ----

-- the score of a scope at the top of a stack, whose place this is
abbrev pub top_score : List ℕ → List ℕ → ℕ → Option Score
top_score scope top place =
    if is_prefix scope top
    then Some (record { power = length scope * 8 ^ place; place = Some place }) else None

-- the one that stands after the rules that match the top
abbrev pub after_top : {V : Type 0} → (StyleModifier → Option V) → List ℕ → ℕ → Option (Candidate V)
    → List Rule → Option (Candidate V)
after_top attribute top place best [] = best
after_top attribute top place best (r ∷ rules) =
    after_top attribute top place
    (against best (candidate (attribute r.style) (top_score r.scope top place))) rules

-- a value of a rule with such a score as a candidate, where the rule has one
abbrev pub other_candidate : {V : Type 0} → Option V → ℕ → Option (Candidate V)
other_candidate value power = candidate value (Some (power_score power))
