use Rattle.std.proofs.Common.{rules, ap}
use Rattle.std.specs.HashMap as hash
use Rattle.std.specs.List.{list_any}
use Rattle.syntect_grammar_contexts.specs.Contexts.{is_same}
use Rattle.syntect_grammar_linker.proofs.Walks.{walk_begins, walk_ends, walk_passes, walk_visits, work_falls, nothing_held}
use Rattle.syntect_grammar_linker.proofs.reached.spread.Goals as goal

pub loop-id-init : goal.loop-id-init
loop-id-init c = walk_begins _ _ _ _ (λ id. ap (list_any (is_same id)) c.new-marked.ensures.empty) (search rules)

pub loop-id-smaller-in-Continue-branch-2 : goal.loop-id-smaller-in-Continue-branch-2
loop-id-smaller-in-Continue-branch-2 c =
    work_falls _ c.args.given.items _ _ c.pop.new.self.items c.in-Some.id _ (search rules) _ (search rules) c.in_ok-insert.ensures.updates.0 (hash.keys c.args.includers.now) (search rules)
    (nothing_held c.args.includers.now.entries c.in-Some.id (λ v. v.items))

pub loop-id-preserved-in-Continue-branch-2 : goal.loop-id-preserved-in-Continue-branch-2
loop-id-preserved-in-Continue-branch-2 c = walk_visits _ _ _ _ c.pop.new.self.items c.in-Some.id _ (search rules) _ (search rules) c.in_ok-insert.ensures.updates.0 c.loop-id.invariant

pub loop-id-preserved : goal.loop-id-preserved
loop-id-preserved c = walk_passes _ _ _ _ c.pop.new.self.items c.in-Some.id _ (search rules) c.loop-id.invariant (search rules) c.in_ok-insert.ensures.updates.0

pub returns : goal.returns
returns c = λ id. walk_ends _ _ _ _ c.loop-id.invariant (search rules) id
