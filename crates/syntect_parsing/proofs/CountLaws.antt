-- Operations apply to stacks that remember enough lists.
use Rattle.std.proofs.Common.{◌≡◌, ℕ, zero, suc, ◌-◌, ◌+◌, false, List, [], ◌∷◌, ◌++◌, length, drop, Option, Some, None, refl, arith, length-append}
use Rattle.std.specs.Option.{option_to_list}
use Rattle.std.specs.List.{filter_map, flat_map, cons_option}
use Rattle.std.proofs.lemmas.List.{length-take}
use Rattle.syntect_parsing.specs.syntect_scope.Stack.{is_refused, kept}
use Rattle.syntect_parsing.specs.syntect_scope.declared.stack.ScopeStackOp.{ScopeStackOp}
use Rattle.syntect_parsing.specs.syntect_scope.declared.stack.ScopeStackOp.TheVariants.{Push, Restore}
use Rattle.syntect_parsing.specs.syntect_scope.declared.stack.ClearAmount.{ClearAmount}
use Rattle.syntect_parsing.specs.syntect_scope.Replay.{Replay, AllApply, replay, replayed, pushes, pops}
use Rattle.syntect_parsing.specs.syntect_grammar.Contexts.{part_of}
use Rattle.syntect_parsing.specs.syntect_grammar_contexts.Contexts.{Scopes}
use Rattle.syntect_parsing.specs.syntect_grammar_contexts.declared.context.ContextId.{ContextId}
use Rattle.syntect_parsing.specs.syntect_grammar.declared.syntax_set.SyntaxSet.{SyntaxSet}
use Rattle.syntect_parsing.specs.Visible.{clearing}
use Rattle.syntect_parsing.specs.Operations.{clears, restores, opens_below, opens_here}
use Rattle.syntect_parsing.proofs.ReplayLaws.{replay-append}
use Rattle.syntect_parsing.proofs.OrderLaws.{apply-append}

-- on a stack that remembers so many lists at least they apply, and leave one that remembers so many
-- others in their place
abbrev pub Counts : ℕ → ℕ → List (ℕ × ScopeStackOp) → Type 0
Counts a b ops = (r : Replay) (k : ℕ) → length r.stack.clear_stack ≡ a + k → AllApply r.stack ops × (length (replay ops r).stack.clear_stack ≡ b + k)

abbrev pub how_many : Option ClearAmount → ℕ
how_many o = length (option_to_list o)

abbrev pub count_ids : SyntaxSet → List ContextId → ℕ
count_ids set ids = length (filter_map (clearing set) ids)

pub counts_as : (a a' b b' : ℕ) (xs : List (ℕ × ScopeStackOp)) → a ≡ a' → b ≡ b' → Counts a b xs → Counts a' b' xs
counts_as a a' b b' xs e f h = λ r k g. let x = h r k (omega (arith, e, g)) in (x.0, omega (arith, f, x.1))

pub counts_nothing : (a : ℕ) → Counts a a []
counts_nothing a = λ r k e. (tt, e)

pub counts_then : (a b c : ℕ) (xs ys : List (ℕ × ScopeStackOp)) → Counts a b xs → Counts b c ys → Counts a c (xs ++ ys)
counts_then a b c xs ys f g = λ r k e.
    let x = f r k e in
    let y = g (replay xs r) k x.1 in
    (apply-append xs ys r x.0 y.0, rw (replay-append xs ys r) y.1)

pub counts_pushes : (a at : ℕ) (ss : Scopes) → Counts a a (pushes at ss)
counts_pushes a at [] = counts_nothing a
counts_pushes a at (s ∷ ss) = λ r k e. let x = counts_pushes a at ss (replayed r (at, Push s)) k e in ((refl, x.0), x.1)

pub counts_pops : (a at n : ℕ) → Counts a a (pops at n)
counts_pops a at zero = counts_nothing a
counts_pops a at (suc n) = λ r k e. ((refl, tt), e)

pub counts_clears : (a at : ℕ) (o : Option ClearAmount) → Counts a (how_many o + a) (clears at o)
counts_clears a at None = λ r k e. (tt, omega (arith, e))
counts_clears a at (Some c) = λ r k e. ((refl, tt), omega (arith, e, length-append r.stack.clear_stack (drop (kept c r.stack) r.stack.scopes ∷ [])))

some_cleared : (mem : List Scopes) (ss : Scopes) (n : ℕ) → length mem ≡ suc n → is_refused Restore (record { clear_stack = mem; scopes = ss }) ≡ false
some_cleared [] ss n e = absurd (omega arith)
some_cleared (c ∷ mem) ss n e = refl

pub counts_restores : (a at : ℕ) (o : Option ClearAmount) → Counts (how_many o + a) a (restores at o)
counts_restores a at None = λ r k e. (tt, omega (arith, e))
counts_restores a at (Some c) = λ r k e.
    ((some_cleared r.stack.clear_stack r.stack.scopes (a + k) (omega (arith, e)), tt), omega (arith, e, length-take (length r.stack.clear_stack - 1) r.stack.clear_stack))

pub many_cons : {X : Type 0} (o : Option X) (xs : List X) → length (cons_option o xs) ≡ length (option_to_list o) + length xs
many_cons None xs = omega arith
many_cons (Some x) xs = omega arith

pub counts_below : (a at : ℕ) (set : SyntaxSet) (ids : List ContextId) → Counts a (count_ids set ids + a) (flat_map (opens_below at set) ids)
counts_below a at set [] = λ r k e. (tt, omega (arith, e))
counts_below a at set (id ∷ ids) =
    let c : Option ClearAmount = clearing set id in
    let m : Scopes = part_of (λ c. c.meta_scope) set id in
    counts_as a a (count_ids set ids + (how_many c + a)) (count_ids set (id ∷ ids) + a) (opens_below at set id ++ flat_map (opens_below at set) ids) refl (omega (arith, many_cons c (filter_map (clearing set) ids)))
    (counts_then a (how_many c + a) (count_ids set ids + (how_many c + a)) (opens_below at set id) (flat_map (opens_below at set) ids)
    (counts_then a (how_many c + a) (how_many c + a) (clears at c) (pushes at m) (counts_clears a at c) (counts_pushes (how_many c + a) at m)) (counts_below (how_many c + a) at set ids))

pub counts_here : (a at : ℕ) (set : SyntaxSet) (ids : List ContextId) → Counts a (count_ids set ids + a) (flat_map (opens_here at set) ids)
counts_here a at set [] = λ r k e. (tt, omega (arith, e))
counts_here a at set (id ∷ ids) =
    let c : Option ClearAmount = clearing set id in
    let m : Scopes = part_of (λ c. c.meta_scope ++ c.meta_content_scope) set id in
    counts_as a a (count_ids set ids + (how_many c + a)) (count_ids set (id ∷ ids) + a) (opens_here at set id ++ flat_map (opens_here at set) ids) refl (omega (arith, many_cons c (filter_map (clearing set) ids)))
    (counts_then a (how_many c + a) (count_ids set ids + (how_many c + a)) (opens_here at set id) (flat_map (opens_here at set) ids)
    (counts_then a (how_many c + a) (how_many c + a) (clears at c) (pushes at m) (counts_clears a at c) (counts_pushes (how_many c + a) at m)) (counts_here (how_many c + a) at set ids))
