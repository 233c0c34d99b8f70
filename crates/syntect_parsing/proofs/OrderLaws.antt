-- Lists of operations in order, and applied.
use Rattle.std.proofs.Common.{ℕ, zero, suc, ◌==◌, ◌+◌, ◌≤◌, Bool, true, false, ◌&&◌, List, [], ◌∷◌, ◌++◌, length, Option, Some, None, arith, if◌then◌else◌}
use Rattle.std.specs.List.{filter_map, flat_map}
use Rattle.std.specs.Str.{IsCharBoundary}
use Rattle.syntect_parsing.specs.syntect_scope.declared.stack.ClearAmount.{ClearAmount}
use Rattle.syntect_parsing.specs.syntect_grammar.Contexts.{part_of}
use Rattle.syntect_parsing.specs.syntect_grammar_contexts.Contexts.{target}
use Rattle.syntect_parsing.specs.syntect_grammar_contexts.declared.context.ContextId.{ContextId}
use Rattle.syntect_parsing.specs.syntect_grammar_contexts.declared.context.MatchOperation.{MatchOperation}
use Rattle.syntect_parsing.specs.syntect_grammar_contexts.declared.context.MatchOperation.TheVariants as op
use Rattle.syntect_parsing.specs.syntect_grammar.declared.syntax_set.SyntaxSet.{SyntaxSet}
use Rattle.syntect_parsing.specs.Visible.{clearing, top_clearing, top_part}
use Rattle.syntect_parsing.specs.Operations.{clears, restores, opens_below, opens_here, operations_below, operations_behind, metas, contents, opens, has_no_scope, clear_nothing, top_count}
use Rattle.syntect_reading_choice.specs.declared.level.Level.{Level}
use Rattle.syntect_parsing.specs.syntect_scope.declared.stack.ScopeStackOp.{ScopeStackOp}
use Rattle.syntect_parsing.specs.syntect_scope.Replay.{InOrder, AllApply, Replay, replay, replayed, pushes, pops}

pub order-append : (text : List ℕ) (a b c : ℕ) (xs ys : List (ℕ × ScopeStackOp)) → InOrder text a xs b → InOrder text b ys c → InOrder text a (xs ++ ys) c
order-append text a b c [] [] h k = let m : a ≤ b = h in let n : b ≤ c = k in omega arith
order-append text a b c [] (y ∷ ys) h k = let m : a ≤ b = h in let n : b ≤ y.0 = k.0 in (omega arith, k.1, k.2)
order-append text a b c (x ∷ xs) ys h k = (h.0, h.1, order-append text x.0 b c xs ys h.2 k)

pub order-pushes : (text : List ℕ) (at : ℕ) (ss : List (List ℕ)) → IsCharBoundary text at → InOrder text at (pushes at ss) at
order-pushes text at [] b = omega arith
order-pushes text at (s ∷ ss) b = (omega arith, b, order-pushes text at ss b)

pub order-pops : (text : List ℕ) (at n : ℕ) → IsCharBoundary text at → InOrder text at (pops at n) at
order-pops text at zero b = omega arith
order-pops text at (suc n) b = (omega arith, b, omega arith)

pub order-none : (text : List ℕ) (a b : ℕ) → a ≤ b → InOrder text a [] b
order-none text a b l = l

pub apply-append : (xs ys : List (ℕ × ScopeStackOp)) (r : Replay) → AllApply r.stack xs → AllApply (replay xs r).stack ys → AllApply r.stack (xs ++ ys)
apply-append [] ys r h k = k
apply-append (x ∷ xs) ys r h k = (h.0, apply-append xs ys (replayed r x) h.1 k)

pub order-clears : (text : List ℕ) (at : ℕ) (a : Option ClearAmount) → IsCharBoundary text at → InOrder text at (clears at a) at
order-clears text at None b = omega arith
order-clears text at (Some a) b = (omega arith, b, omega arith)

pub order-restores : (text : List ℕ) (at : ℕ) (a : Option ClearAmount) → IsCharBoundary text at → InOrder text at (restores at a) at
order-restores text at None b = omega arith
order-restores text at (Some a) b = (omega arith, b, omega arith)

order-each : (text : List ℕ) (at : ℕ) (f : ContextId → List (ℕ × ScopeStackOp)) → ((id : ContextId) → InOrder text at (f id) at) → (ids : List ContextId) → InOrder text at (flat_map f ids) at
order-each text at f h [] = omega arith
order-each text at f h (id ∷ ids) = order-append text at at at (f id) (flat_map f ids) (h id) (order-each text at f h ids)

pub order-below : (text : List ℕ) (at : ℕ) (set : SyntaxSet) (levels : List Level) (o : MatchOperation) → IsCharBoundary text at → InOrder text at (operations_below at set levels o) at
order-below text at set levels (op.Push refs) b =
    order-each text at (opens_below at set) (λ id. order-append text at at at (clears at (clearing set id)) (pushes at (part_of (λ c. c.meta_scope) set id)) (order-clears text at (clearing set id) b) (order-pushes text at (part_of (λ c. c.meta_scope) set id) b)) (filter_map target refs)
order-below text at set levels (op.Set refs) b = order-append text at at at (restores at (top_clearing set levels)) (pushes at (metas set refs)) (order-restores text at (top_clearing set levels) b) (order-pushes text at (metas set refs) b)
order-below text at set levels op.Pop b = order-pops text at (length (top_part (λ c. c.meta_content_scope) set levels)) b
order-below text at set levels op.None b = omega arith

order-if : (text : List ℕ) (at : ℕ) (c : Bool) (ops : List (ℕ × ScopeStackOp)) → InOrder text at ops at → InOrder text at (if c then [] else ops) at
order-if text at true ops h = omega arith
order-if text at false ops h = h

pub order-behind : (text : List ℕ) (at : ℕ) (set : SyntaxSet) (levels : List Level) (o : MatchOperation) → IsCharBoundary text at → InOrder text at (operations_behind at set levels o) at
order-behind text at set levels (op.Push refs) b =
    order-if text at (has_no_scope (contents set refs)) (pops at (length (metas set refs)) ++ pushes at (opens set refs))
    (order-append text at at at (pops at (length (metas set refs))) (pushes at (opens set refs)) (order-pops text at (length (metas set refs)) b) (order-pushes text at (opens set refs) b))
order-behind text at set levels (op.Set refs) b =
    let n : ℕ = length (metas set refs) + top_count set levels in
    order-if text at (has_no_scope (contents set refs) && ((top_count set levels == 0) && clear_nothing set (filter_map target refs))) (pops at n ++ flat_map (opens_here at set) (filter_map target refs))
    (order-append text at at at (pops at n) (flat_map (opens_here at set) (filter_map target refs)) (order-pops text at n b)
    (order-each text at (opens_here at set) (λ id. order-append text at at at (clears at (clearing set id)) (pushes at (part_of (λ c. c.meta_scope ++ c.meta_content_scope) set id)) (order-clears text at (clearing set id) b) (order-pushes text at (part_of (λ c. c.meta_scope ++ c.meta_content_scope) set id) b)) (filter_map target refs)))
order-behind text at set levels op.Pop b =
    let n : ℕ = length (top_part (λ c. c.meta_scope) set levels) in
    order-append text at at at (pops at n) (restores at (top_clearing set levels)) (order-pops text at n b) (order-restores text at (top_clearing set levels) b)
order-behind text at set levels op.None b = omega arith
