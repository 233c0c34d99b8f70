use Rattle.std.proofs.Common.{length, rules, subst}
use Rattle.std.specs.Prelude.{IfOk}
use Rattle.syntect_pattern.specs.Trees.{alt_all}
use Rattle.syntect_pattern_table.specs.Builder.{Holds}
use Rattle.syntect_pattern_table.proofs.BuilderLaws.{Grows-trans}
use Rattle.syntect_pattern_compile.proofs.JoinLaws.{below-grown}
use Rattle.syntect_pattern_compile.proofs.ReaderLaws.{below-new, before-is}
use Rattle.syntect_pattern_compile.proofs.reader.Reader.finish.Goals as goal

pub branches-requires : goal.branches-requires
branches-requires c =
    below-new (length c.sequence.new.self.nodes) c.args.body.before c.push.new.self c.in_ok-last.last c.in_ok-push.ensures.ok
    (below-grown c.args.self.now.builder.nodes c.sequence.new.self.nodes c.args.body.before c.in_ok-last.ensures.grows c.requires.before) c.in_ok-last.ensures.holds.inside

pub returns-clause-grows : goal.returns-clause-grows
returns-clause-grows c = search (rules, Grows-trans)

pub returns-clause-holds : goal.returns-clause-holds
returns-clause-holds c =
    subst (λ ts. IfOk c.branches.result (λ k. Holds c.branches.new.self.nodes k (alt_all ts)))
    (before-is c.args.self.now.builder.nodes c.sequence.new.self.nodes c.args.body.before c.args.body.items c.push.new.self c.in_ok-last.last
    c.in_ok-last.ensures.grows c.requires.before c.in_ok-push.ensures.ok c.in_ok-last.ensures.holds)
    c.branches.ensures.holds
