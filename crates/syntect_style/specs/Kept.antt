-- What is known of the styles of stacks.
use Rattle.std.specs.Prelude.{◌≡◌, ◌≤◌, ℕ, List, [], ◌∷◌, ◌++◌, length, map, take, IfSome}
use Rattle.syntect_style.specs.Rules.{IsWorthPrevailing, AreOthers, ScoreAlike, candidate_from, other_from, other_rules}
use Rattle.syntect_style.specs.Styling.{style_of}
use Rattle.syntect_theme.specs.declared.style.Color.{Color}
use Rattle.syntect_theme.specs.declared.style.FontStyle.{FontStyle}
use Rattle.syntect_theme.specs.declared.theme.Theme.{Theme}
use Rattle.syntect_style.specs.declared.contest.Leaders.{Leaders}
use Rattle.syntect_style.specs.declared.kept.Kept.{Kept}
use Rattle.syntect_style.specs.declared.others.OtherLeaders.{OtherLeaders}
use Rattle.syntect_style.specs.declared.others.SmallLeaders.{SmallLeaders}

-- for each attribute these values are worth what the single rule is worth that prevails
pub record AreLeadersOf (theme : Theme) (stack : List (List ℕ)) (s : Leaders) : Type 0 where
  pub foreground : IsWorthPrevailing Color (λ m. m.foreground) theme stack (candidate_from s.foreground)
  pub background : IsWorthPrevailing Color (λ m. m.background) theme stack (candidate_from s.background)
  pub font_style : IsWorthPrevailing FontStyle (λ m. m.font_style) theme stack (candidate_from s.font_style)

-- and these, whose scores are small
abbrev pub AreSmall : Theme → List (List ℕ) → SmallLeaders → Type 0
AreSmall theme stack s =
    AreOthers theme stack (other_from s.foreground) (other_from s.background)
    (other_from s.font_style)

-- each of the other rules scores in so many of the lowest scopes of a stack what it
-- scores in the stack
pub record IsBase (theme : Theme) (stack : List (List ℕ)) (base : ℕ) : Type 0 where
  pub within : base ≤ length stack
  pub alike : ScoreAlike (other_rules theme) (take base stack) stack

-- What is kept of a stack is true under the theme: what the single rules come to, its style, what
-- the other rules come to, and that none of these has another score in its lower part,
-- up to the base.
pub record IsKnown (theme : Theme) (stack : List (List ℕ)) (k : Kept) : Type 0 where
  pub single : AreLeadersOf theme stack k.single
  pub style : IfSome k.style (λ style. style ≡ style_of theme stack)
  pub others : IfSome k.others (AreSmall theme stack)
  pub base : IsBase theme stack k.base

-- each one is about the scopes below it, its own on top
abbrev pub AreKnown : Theme → List (List ℕ) → List Kept → Type 0
AreKnown theme below [] = Unit {0}
AreKnown theme below (k ∷ ks) =
    IsKnown theme (below ++ k.scope ∷ []) k × AreKnown theme (below ++ k.scope ∷ []) ks

-- the scopes of the highest of these stacks
abbrev pub scopes_of : List Kept → List (List ℕ)
scopes_of ks = map (λ k. k.scope) ks

-- the lowest of these scopes, so many
abbrev pub lowest : ℕ → List Kept → List (List ℕ)
lowest n ks = take n (scopes_of ks)

-- ---- For proofs and private functions alone ----

-- these are what the other rules come to
abbrev pub AreLarge : Theme → List (List ℕ) → OtherLeaders → Type 0
AreLarge theme stack s =
    AreOthers theme stack (other_from s.foreground) (other_from s.background)
    (other_from s.font_style)
