use Rattle.std.proofs.Common.{rules, ap, [], ◌∷◌}
use Rattle.std.specs.List.{list_any}
use Rattle.syntect_grammar_contexts.specs.Contexts.{is_same}
use Rattle.syntect_grammar_linker.proofs.Numbers.{numbers_from}
use Rattle.syntect_grammar_linker.proofs.Walks.{walk_begins, walk_ends, walk_passes, walk_visits, work_falls}
use Rattle.syntect_grammar_linker.proofs.ReachedLaws.{no_steps_outside, walk_reaches}
use Rattle.syntect_grammar_linker.proofs.reached.reached_from.Goals as goal

pub loop-id-init : goal.loop-id-init
loop-id-init c = walk_begins _ _ _ _ (λ id. ap (list_any (is_same id)) c.new-reached.ensures.empty) (search rules)

pub loop-id-smaller-in-Continue-branch-3 : goal.loop-id-smaller-in-Continue-branch-3
loop-id-smaller-in-Continue-branch-3 c =
    work_falls _ (c.args.prototype ∷ []) _ _ c.pop.new.self.items c.in-Some.id _ (search rules) _ (search rules) c.in_ok-insert.ensures.updates.0 (numbers_from 0 c.args.bodies.now) (search rules)
    (no_steps_outside c.args.bodies.now c.args.home c.args.names.now c.in-Some.id)

pub loop-id-preserved-in-Continue-branch-3 : goal.loop-id-preserved-in-Continue-branch-3
loop-id-preserved-in-Continue-branch-3 c = walk_visits _ _ _ _ c.pop.new.self.items c.in-Some.id _ (search rules) _ (search rules) c.in_ok-insert.ensures.updates.0 c.loop-id.invariant

pub loop-id-preserved : goal.loop-id-preserved
loop-id-preserved c = walk_passes _ _ _ _ c.pop.new.self.items c.in-Some.id _ (search rules) c.loop-id.invariant (search rules) c.in_ok-insert.ensures.updates.0

pub returns : goal.returns
returns c = λ id.
    let ends = walk_ends _ _ _ _ c.loop-id.invariant (search rules) id in
    walk_reaches c.args.bodies.now c.args.home c.args.names.now c.args.prototype id _ ends.1 ends.0
