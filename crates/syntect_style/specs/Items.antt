-- What an iterator over the pieces of a text has given and still gives.
use Rattle.std.specs.Prelude.{◌≡◌, ℕ, ◌+◌, ◌-◌, List, [], ◌∷◌, ◌++◌, length, Option, Some, None, Result, Ok, Err, slice_range}
use Rattle.std.specs.Str.{IsCharBoundary}
use Rattle.std.specs.Borrow.{Bor}
use Rattle.std.specs.declared.ops.Range.{Range}
use Rattle.syntect_style.specs.syntect_scope.Replay.{InOrder, AllApply}
use Rattle.syntect_style.specs.syntect_scope.declared.stack.ScopeStack.{ScopeStack}
use Rattle.syntect_style.specs.syntect_scope.declared.stack.ScopeStackOp.{ScopeStackOp}
use Rattle.syntect_style.specs.syntect_scope.declared.stack.ScopeError.{ScopeError}
use Rattle.syntect_style.specs.syntect_scope.declared.stack.ScopeError.TheVariants.{NoClearedScopesToRestore, Memory}
use Rattle.syntect_style.specs.Styling.{shown_style}
use Rattle.syntect_style.specs.Pieces.{Stretch, stretches, last_stack, path_of, KeepsTrueStyles}
use Rattle.syntect_theme.specs.declared.style.Style.{Style}
use Rattle.syntect_theme.specs.declared.theme.Theme.{Theme}
use Rattle.syntect_style.specs.declared.state.HighlightState.{HighlightState}
use Rattle.syntect_style.specs.declared.pieces.RangedHighlightIterator.{RangedHighlightIterator}
use Rattle.syntect_style.specs.declared.pieces.HighlightIterator.{HighlightIterator}

-- ---- where an iterator stands ----

abbrev pub theme_of : RangedHighlightIterator → Theme
theme_of s = s.highlighter.now

-- the stack that it has come to
abbrev pub stack_of : RangedHighlightIterator → ScopeStack
stack_of s = path_of s.state.now

-- the operations that are left are in order
abbrev pub IsReady : RangedHighlightIterator → Type 0
IsReady s =
    IsCharBoundary s.text.now s.pos × InOrder s.text.now s.pos s.changes.now (length s.text.now)

-- an iterator at the start of a text, with all operations before it
pub record Begins (s : RangedHighlightIterator) (theme : Theme) (text : List ℕ)
    (changes : List (ℕ × ScopeStackOp)) (state : HighlightState) : Type 0 where
  pub ready : IsReady s
  pub theme_is : theme_of s ≡ theme
  pub text_is : s.text.now ≡ text
  pub changes_are : s.changes.now ≡ changes
  pub state_is : s.state.now ≡ state
  pub pos_is : s.pos ≡ 0

-- the pieces that are left, and where one is refused
abbrev pub left : RangedHighlightIterator → List (Result Stretch ScopeError)
left s = stretches (length s.text.now) s.pos (stack_of s) s.changes.now

-- the stack after the operations that are left, or before the first refused one
abbrev pub final : RangedHighlightIterator → ScopeStack
final s = last_stack (stack_of s) s.changes.now

-- nothing is left
abbrev pub IsOver : RangedHighlightIterator → Type 0
IsOver s = (s.changes.now ≡ []) × (s.pos ≡ length s.text.now)

abbrev pub calls_left : RangedHighlightIterator → ℕ
calls_left s = length s.changes.now + (length s.text.now - s.pos)

-- ---- one call ----

-- what colours rest on: what the state keeps is true under the theme
abbrev pub Tells : RangedHighlightIterator → Type 0
Tells s = KeepsTrueStyles (theme_of s) s.state.now

-- a piece shows a stretch of a text
pub record Shows (theme : Theme) (text : List ℕ) (tells : Type 0) (st : Stretch)
    (p : Style × Bor (List ℕ) × Range ℕ) : Type 0 where
  pub style : tells → p.0 ≡ shown_style theme st.scopes
  pub text_of : p.1.now ≡ slice_range text st.from st.to
  pub from : p.2.start ≡ st.from
  pub to : p.2.end ≡ st.to

-- what a call leaves
pub record Carries (s t : RangedHighlightIterator) : Type 0 where
  pub text : t.text ≡ s.text
  pub highlighter : t.highlighter ≡ s.highlighter
  pub state : t.state.ghost_name ≡ s.state.ghost_name
  pub keeps : KeepsTrueStyles (theme_of s) s.state.now → KeepsTrueStyles (theme_of s) t.state.now

-- Operations were applied, from one place to another, and these are left.
pub record Passes (s t : RangedHighlightIterator) (to : ℕ)
    (others : List (ℕ × ScopeStackOp)) : Type 0 where
  pub done : List (ℕ × ScopeStackOp)
  pub split : s.changes.now ≡ done ++ others
  pub order : InOrder s.text.now s.pos done to
  pub apply : AllApply (stack_of s) done
  pub stack : stack_of t ≡ last_stack (stack_of s) done

-- a piece: the next stretch, up to the place that is reached
pub record GivesPiece (s t : RangedHighlightIterator)
    (p : Style × Bor (List ℕ) × Range ℕ) : Type 0 where
  pub piece : Stretch
  pub next : left s ≡ Ok piece ∷ left t
  pub to : piece.to ≡ t.pos
  pub passes : Passes s t t.pos t.changes.now
  pub shows : Shows (theme_of s) s.text.now (Tells s) piece p

-- Lack of memory: operations at the place were applied, and then it was met.
pub record Stops (s t : RangedHighlightIterator) : Type 0 where
  pub others : List (ℕ × ScopeStackOp)
  pub passes : Passes s t s.pos others
  pub over : IsOver t

abbrev pub GivesItem : RangedHighlightIterator
    → Option (Result (Style × Bor (List ℕ) × Range ℕ) ScopeError) → RangedHighlightIterator → Type 0
GivesItem s None t = (left s ≡ []) × IsOver t × (stack_of t ≡ final s)
GivesItem s (Some (Ok p)) t = GivesPiece s t p
GivesItem s (Some (Err NoClearedScopesToRestore)) t =
    (left s ≡ Err NoClearedScopesToRestore ∷ []) × IsOver t × (stack_of t ≡ final s)
GivesItem s (Some (Err Memory)) t = Stops s t

abbrev pub Gives : RangedHighlightIterator
    → Option (Result (Style × Bor (List ℕ) × Range ℕ) ScopeError) → RangedHighlightIterator → Type 0
Gives s r t = Carries s t × GivesItem s r t

-- ---- without places ----

-- an item without its place in the text
abbrev pub unranged : Option (Result (Style × Bor (List ℕ) × Range ℕ) ScopeError)
    → Option (Result (Style × Bor (List ℕ)) ScopeError)
unranged None = None
unranged (Some (Err e)) = Some (Err e)
unranged (Some (Ok p)) = Some (Ok (p.0, p.1))

-- an item, with no place told
abbrev pub GivesUnranged : HighlightIterator → Option (Result (Style × Bor (List ℕ)) ScopeError)
    → HighlightIterator → Type 0
GivesUnranged s r t =
    (full : Option (Result (Style × Bor (List ℕ) × Range ℕ) ScopeError))
    × Gives s.ranged full t.ranged × (r ≡ unranged full)
