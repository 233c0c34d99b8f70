-- The pieces of a text that operations cut.
use Rattle.std.specs.Prelude.{◌≡◌, ℕ, nat_lt, ◌<◌, ◌≤◌, List, [], ◌∷◌, ◌++◌, length, take, map, replicate, All, if◌then◌else◌, Result, Ok, Err}
use Rattle.std.specs.List.{flat_map}
use Rattle.std.specs.Borrow.{Bor}
use Rattle.syntect_style.specs.syntect_scope.Stack.{applied, is_refused}
use Rattle.syntect_style.specs.syntect_scope.declared.stack.ScopeStack.{ScopeStack}
use Rattle.syntect_style.specs.syntect_scope.declared.stack.ScopeStackOp.{ScopeStackOp}
use Rattle.syntect_style.specs.syntect_scope.declared.stack.ScopeError.{ScopeError}
use Rattle.syntect_style.specs.syntect_scope.declared.stack.ScopeError.TheVariants.{NoClearedScopesToRestore}
use Rattle.syntect_style.specs.Kept.{AreKnown, lowest}
use Rattle.syntect_style.specs.Styling.{shown_style}
use Rattle.syntect_theme.specs.declared.style.Style.{Style}
use Rattle.syntect_theme.specs.declared.theme.Theme.{Theme}
use Rattle.syntect_style.specs.declared.state.HighlightState.{HighlightState}

-- ---- states ----

-- the stack of a state
abbrev pub path_of : HighlightState → ScopeStack
path_of s = s.path

-- What a state keeps is true under the theme, and as much of it as the state says is about lower
-- parts of its stack. A state has it from its making on, as long as one highlighter is used.
pub record KeepsTrueStyles (theme : Theme) (s : HighlightState) : Type 0 where
  pub known : AreKnown theme [] s.kept
  pub within : s.fits ≤ length s.kept
  pub on_path : lowest s.fits s.kept ≡ take s.fits s.path.scopes

-- ---- stretches ----

-- a part of a text with the scopes over it
pub record Stretch : Type 0 where
  pub from : ℕ
  pub to : ℕ
  pub scopes : List (List ℕ)

-- a stretch, unless it is empty
abbrev pub stretch : ℕ → ℕ → List (List ℕ) → List Stretch
stretch from to scopes =
    if nat_lt from to then record { from = from; to = to; scopes = scopes } ∷ [] else []

-- each is a piece
abbrev pub oks : List Stretch → List (Result Stretch ScopeError)
oks [] = []
oks (x ∷ xs) = Ok x ∷ oks xs

-- the stretches between the operations' places, from a place to the end, each with the stack at it;
-- a refused operation ends them
abbrev pub stretches : ℕ → ℕ → ScopeStack → List (ℕ × ScopeStackOp)
    → List (Result Stretch ScopeError)
stretches end at s [] = oks (stretch at end s.scopes)
stretches end at s (o ∷ os) =
    if is_refused o.1 s then Err NoClearedScopesToRestore ∷ []
    else oks (stretch at o.0 s.scopes) ++ stretches end o.0 (applied o.1 s) os

-- the stack after the operations before a refused one
abbrev pub last_stack : ScopeStack → List (ℕ × ScopeStackOp) → ScopeStack
last_stack s [] = s
last_stack s (o ∷ os) = if is_refused o.1 s then s else last_stack (applied o.1 s) os

-- ---- pieces ----

-- the pieces join to the text, and none is empty
pub record Joins (text : List ℕ) (pieces : List (Style × Bor (List ℕ))) : Type 0 where
  pub joined : flat_map (λ p. p.1.now) pieces ≡ text
  pub filled : All (λ p. 0 < length p.1.now) pieces

-- each byte of the pieces has the theme's style for its scopes
abbrev pub IsStyled : Theme → List (List (List ℕ)) → List (Style × Bor (List ℕ)) → Type 0
IsStyled theme bytes pieces =
    flat_map (λ p. replicate (length p.1.now) p.0) pieces ≡ map (shown_style theme) bytes
