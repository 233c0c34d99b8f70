-- The single rules by the first atoms of their scopes: which of them can match a scope.
use Rattle.std.specs.Prelude.{◌≡◌, ℕ, ◌<◌, ◌%◌, ◌==◌, ◌||◌, Bool, true, false, List, [], ◌∷◌, length, slice_index, slice_index_or}
use Rattle.std.specs.List.{filter}
use Rattle.syntect_style.specs.syntect_scope.declared.selector.ScopeSelector.{ScopeSelector}
use Rattle.syntect_style.specs.Rules.{single_rules, other_rules, last_rules}
use Rattle.syntect_theme.specs.declared.style.StyleModifier.{StyleModifier}
use Rattle.syntect_theme.specs.declared.theme.Theme.{Theme}
use Rattle.syntect_style.specs.declared.scores.Rule.{Rule}

-- ---- What invariants alone rest on ----

-- the bucket of a scope, by its first atom
abbrev pub bucket_of : List ℕ → ℕ
bucket_of scope = slice_index scope 0 % 32

-- the scope has no atoms
abbrev pub has_no_atoms : List ℕ → Bool
has_no_atoms [] = true
has_no_atoms (atom ∷ atoms) = false

-- a rule can match the scopes of its own bucket, and one of no atoms matches each scope
abbrev pub may_match : ℕ → Rule → Bool
may_match bucket rule = has_no_atoms rule.scope || (bucket_of rule.scope == bucket)

-- a bucket for each number, with the rules that can match its scopes, in their order
pub record AreBuckets (rules : List Rule) (buckets : List (List Rule)) : Type 0 where
  pub count : length buckets ≡ 32
  pub each : (b : ℕ) → b < 32 → slice_index_or buckets b [] ≡ filter (may_match b) rules

-- A theme made ready: its single rules in buckets, its other rules in their order, the last scopes
-- of the paths and exclusions of these in buckets too.
pub record IsReady (theme : Theme) (buckets : List (List Rule))
    (others : List (ScopeSelector × StyleModifier)) (lasts : List (List Rule)) : Type 0 where
  pub singles : AreBuckets (single_rules theme) buckets
  pub all_others : others ≡ other_rules theme
  pub last_scopes : AreBuckets (last_rules (other_rules theme)) lasts
