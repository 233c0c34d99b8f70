-- The ranges of a line between operations, each with the operation before it.
use Rattle.std.specs.Prelude.{◌≡◌, ℕ, List, [], ◌∷◌, length, Option, Some, None, slice_range}
use Rattle.std.specs.Borrow.{Bor}
use Rattle.std.specs.Str.{IsCharBoundary}
use Rattle.std.specs.declared.ops.Range.{Range}
use Rattle.syntect_operations.specs.declared.ranges.ScopeRangeIterator.{ScopeRangeIterator}
use Rattle.syntect_operations.specs.declared.ranges.ScopeRegionIterator.{ScopeRegionIterator}
use Rattle.syntect_scope.specs.Replay.{InOrder}
use Rattle.syntect_scope.specs.declared.stack.ScopeStackOp.{ScopeStackOp}

-- where a range begins and ends, and the operation before it
pub record OpRange : Type 0 where
  pub from : ℕ
  pub to : ℕ
  pub op : ScopeStackOp

-- the ranges from a place on: up to each of the operations, and up to the end
abbrev pub ranges : ℕ → ℕ → ScopeStackOp → List (ℕ × ScopeStackOp) → List OpRange
ranges end from op [] = record { from = from; to = end; op = op } ∷ []
ranges end from op (o ∷ os) = record { from = from; to = o.0; op = op } ∷ ranges end o.0 o.1 os

-- those after the operation before them, if there are any left
abbrev pub ranges_behind : ℕ → ℕ → Option ScopeStackOp → List (ℕ × ScopeStackOp) → List OpRange
ranges_behind end from None os = []
ranges_behind end from (Some op) os = ranges end from op os

-- the line that is parted
abbrev pub line_of : ScopeRangeIterator → Bor (List ℕ)
line_of s = s.line

-- the ranges that are left
abbrev pub left : ScopeRangeIterator → List OpRange
left s = ranges_behind (length s.line.now) s.from s.op s.ops.now

-- the operations that are left are in order
abbrev pub IsReady : ScopeRangeIterator → Type 0
IsReady s =
    IsCharBoundary s.line.now s.from × InOrder s.line.now s.from s.ops.now (length s.line.now)

abbrev pub items_left : ScopeRangeIterator → ℕ
items_left s = length (left s)

-- a range as the iterator gives it
pub record IsRange (r : OpRange) (item : Range ℕ × ScopeStackOp) : Type 0 where
  pub from : item.0.start ≡ r.from
  pub to : item.0.end ≡ r.to
  pub op : item.1 ≡ r.op

-- the next range, and those after it are left
pub record GivesNext (s t : ScopeRangeIterator) (item : Range ℕ × ScopeStackOp) : Type 0 where
  pub range : OpRange
  pub next : left s ≡ range ∷ left t
  pub is : IsRange range item
  pub line : line_of t ≡ line_of s

abbrev pub GivesRange : ScopeRangeIterator → Option (Range ℕ × ScopeStackOp) → ScopeRangeIterator
    → Type 0
GivesRange s None t = (left s ≡ []) × (left t ≡ [])
GivesRange s (Some item) t = GivesNext s t item

-- the ranges whose texts are given
abbrev pub ranges_in : ScopeRegionIterator → ScopeRangeIterator
ranges_in s = s.ranges

-- the same, with the text of the range
pub record GivesText (s t : ScopeRegionIterator) (item : Bor (List ℕ) × ScopeStackOp) : Type 0 where
  pub range : OpRange
  pub next : left (ranges_in s) ≡ range ∷ left (ranges_in t)
  pub text : item.0.now ≡ slice_range (line_of (ranges_in s)).now range.from range.to
  pub op : item.1 ≡ range.op
  pub line : line_of (ranges_in t) ≡ line_of (ranges_in s)

abbrev pub GivesRegion : ScopeRegionIterator → Option (Bor (List ℕ) × ScopeStackOp)
    → ScopeRegionIterator → Type 0
GivesRegion s None t = (left (ranges_in s) ≡ []) × (left (ranges_in t) ≡ [])
GivesRegion s (Some item) t = GivesText s t item
