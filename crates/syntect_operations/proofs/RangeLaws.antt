-- Ranges between operations.
use Rattle.std.proofs.Common.{◌≡◌, ℕ, ◌≤◌, List, [], ◌∷◌, length, ap, subst, ◌∙◌, refl, arith, Option, Some, None}
use Rattle.std.specs.Str.{IsCharBoundary}
use Rattle.syntect_operations.specs.Ranges.{OpRange, ranges, ranges_behind, left}
use Rattle.syntect_operations.specs.declared.ranges.ScopeRangeIterator.{ScopeRangeIterator}
use Rattle.syntect_scope.specs.Replay.{InOrder}
use Rattle.syntect_scope.specs.declared.stack.ScopeStackOp.{ScopeStackOp}

-- operations are left
pub left_more : (s : ScopeRangeIterator) (op : ScopeStackOp) (o : ℕ × ScopeStackOp) (os : List (ℕ × ScopeStackOp)) → s.op ≡ Some op → s.ops.now ≡ o ∷ os
    → left s ≡ record { from = s.from; to = o.0; op = op } ∷ ranges (length s.line.now) o.0 o.1 os
left_more s op o os e f = ap (λ (p : Option ScopeStackOp). ranges_behind (length s.line.now) s.from p s.ops.now) e ∙ ap (λ (l : List (ℕ × ScopeStackOp)). ranges (length s.line.now) s.from op l) f

-- none is left
pub left_last : (s : ScopeRangeIterator) (op : ScopeStackOp) → s.op ≡ Some op → s.ops.now ≡ [] → left s ≡ record { from = s.from; to = length s.line.now; op = op } ∷ []
left_last s op e f = ap (λ (p : Option ScopeStackOp). ranges_behind (length s.line.now) s.from p s.ops.now) e ∙ ap (λ (l : List (ℕ × ScopeStackOp)). ranges (length s.line.now) s.from op l) f

pub empty_ops : (os : List (ℕ × ScopeStackOp)) → length os ≡ 0 → os ≡ []
empty_ops [] e = refl
empty_ops (o ∷ os) e = absurd (omega arith)

first_same : (x r : OpRange) (xs rest : List OpRange) → x ∷ xs ≡ r ∷ rest → x ≡ r
first_same x r xs rest e = cc

-- a range lies in the line and between its characters
pub record InLine (line : List ℕ) (r : OpRange) : Type 0 where
  pub order : r.from ≤ r.to
  pub start : IsCharBoundary line r.from
  pub end : IsCharBoundary line r.to

pub range_ready : (line : List ℕ) (from : ℕ) (op : Option ScopeStackOp) (os : List (ℕ × ScopeStackOp)) (r : OpRange) (rest : List OpRange) → IsCharBoundary line from → InOrder line from os (length line)
    → ranges_behind (length line) from op os ≡ r ∷ rest → InLine line r
range_ready line from None os r rest b h e = let f : [] ≡ r ∷ rest = e in cc
range_ready line from (Some op) [] r rest b h e =
    let x : OpRange = record { from = from; to = length line; op = op } in
    let whole : InLine line x = record { order = h; start = b; end = (omega arith, λ less. absurd (omega (arith, less))) } in
    subst (InLine line) (first_same x r [] rest e) whole
range_ready line from (Some op) (o ∷ os) r rest b h e =
    let x : OpRange = record { from = from; to = o.0; op = op } in
    let whole : InLine line x = record { order = h.0; start = b; end = h.1 } in
    subst (InLine line) (first_same x r (ranges (length line) o.0 o.1 os) rest e) whole
