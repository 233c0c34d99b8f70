-- Operations at one place that lead from one stack to another.
use Rattle.std.proofs.Common.{◌≡◌, ℕ, List, [], ◌∷◌, ◌++◌, length, fold, Option, Some, None}
use Rattle.std.specs.List.{flat_map}
use Rattle.syntect_parsing.specs.syntect_scope.declared.stack.ScopeStack.{ScopeStack}
use Rattle.syntect_parsing.specs.syntect_scope.declared.stack.ScopeStackOp.{ScopeStackOp}
use Rattle.syntect_parsing.specs.syntect_scope.declared.stack.ScopeStackOp.TheVariants.{Clear, Restore}
use Rattle.syntect_parsing.specs.syntect_scope.declared.stack.ClearAmount.{ClearAmount}
use Rattle.syntect_parsing.specs.syntect_scope.Replay.{Replay, replay, pushes, pops}
use Rattle.syntect_parsing.specs.syntect_grammar.Contexts.{part_of}
use Rattle.syntect_parsing.specs.syntect_grammar_contexts.Contexts.{Scopes}
use Rattle.syntect_parsing.specs.syntect_grammar_contexts.declared.context.ContextId.{ContextId}
use Rattle.syntect_parsing.specs.syntect_grammar.declared.syntax_set.SyntaxSet.{SyntaxSet}
use Rattle.syntect_parsing.specs.Visible.{clearing}
use Rattle.syntect_parsing.specs.Stacks.{IsAt, onto, after_clearing, enter}
use Rattle.syntect_parsing.specs.Operations.{clears, restores, opens_below, opens_here}
use Rattle.syntect_parsing.proofs.ReplayLaws.{replay-append, at_onto, at_pops, at_applied}
use Rattle.syntect_parsing.proofs.StackLaws.{enter_below, restore_clear}

abbrev pub LeadsTo : ℕ → List (ℕ × ScopeStackOp) → ScopeStack → ScopeStack → Type 0
LeadsTo at ops t u = (r : Replay) (b : List Scopes) → IsAt r at b t → IsAt (replay ops r) at b u

pub leads_nothing : (at : ℕ) (t : ScopeStack) → LeadsTo at [] t t
leads_nothing at t = λ r b h. h

pub leads_then : (at : ℕ) (xs ys : List (ℕ × ScopeStackOp)) (t u v : ScopeStack) → LeadsTo at xs t u → LeadsTo at ys u v → LeadsTo at (xs ++ ys) t v
leads_then at xs ys t u v f g = λ r b h. rw (replay-append xs ys r) (g (replay xs r) b (f r b h))

pub leads_pushes : (at : ℕ) (t : ScopeStack) (ss : Scopes) → LeadsTo at (pushes at ss) t (onto t ss)
leads_pushes at t ss = λ r b h. at_onto r at b t ss h

pub leads_pops : (at n : ℕ) (t : ScopeStack) (ss : Scopes) → length ss ≡ n → LeadsTo at (pops at n) (onto t ss) t
leads_pops at n t ss e = λ r b h. at_pops t.clear_stack r at n b t.scopes ss e h

pub leads_clears : (at : ℕ) (t : ScopeStack) (a : Option ClearAmount) → LeadsTo at (clears at a) t (after_clearing a t)
leads_clears at t None = λ r b h. h
leads_clears at t (Some a) = λ r b h. at_applied r at b t (Clear a) h

pub leads_restores : (at : ℕ) (t : ScopeStack) (a : Option ClearAmount) → LeadsTo at (restores at a) (after_clearing a t) t
leads_restores at t None = λ r b h. h
leads_restores at t (Some a) = λ r b h. rw (restore_clear a t) at (at_applied r at b (after_clearing (Some a) t) Restore h)

pub leads_below : (at : ℕ) (set : SyntaxSet) (t : ScopeStack) (ids : List ContextId) → LeadsTo at (flat_map (opens_below at set) ids) t (fold (enter_below set) t ids)
leads_below at set t [] = leads_nothing at t
leads_below at set t (id ∷ ids) =
    let m : Scopes = part_of (λ c. c.meta_scope) set id in
    leads_then at (opens_below at set id) (flat_map (opens_below at set) ids) t (enter_below set t id) (fold (enter_below set) (enter_below set t id) ids)
    (leads_then at (clears at (clearing set id)) (pushes at m) t (after_clearing (clearing set id) t) (enter_below set t id) (leads_clears at t (clearing set id)) (leads_pushes at (after_clearing (clearing set id) t) m))
    (leads_below at set (enter_below set t id) ids)

pub leads_here : (at : ℕ) (set : SyntaxSet) (t : ScopeStack) (ids : List ContextId) → LeadsTo at (flat_map (opens_here at set) ids) t (fold (enter set) t ids)
leads_here at set t [] = leads_nothing at t
leads_here at set t (id ∷ ids) =
    let m : Scopes = part_of (λ c. c.meta_scope ++ c.meta_content_scope) set id in
    leads_then at (opens_here at set id) (flat_map (opens_here at set) ids) t (enter set t id) (fold (enter set) (enter set t id) ids)
    (leads_then at (clears at (clearing set id)) (pushes at m) t (after_clearing (clearing set id) t) (enter set t id) (leads_clears at t (clearing set id)) (leads_pushes at (after_clearing (clearing set id) t) m))
    (leads_here at set (enter set t id) ids)
