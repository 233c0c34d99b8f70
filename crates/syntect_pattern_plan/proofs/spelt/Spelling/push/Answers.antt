use Rattle.std.proofs.Common.{◌∷◌, ◌++◌, []}
use Rattle.syntect_pattern_plan.specs.syntect_pattern_table.Table.{AreSpelt, IsOrdered}
use Rattle.syntect_pattern_plan.proofs.syntect_pattern_table_proofs.BuilderLaws.{Grows-push, Holds-push}
use Rattle.syntect_pattern_plan.proofs.SpeltLaws.{after-push, ordered-push, spelt-push}
use Rattle.syntect_pattern_plan.proofs.spelt.Spelling.push.Goals as goal

pub invariant_of-self : goal.invariant_of-self
invariant_of-self c =
    let old = c.args.self.now.nodes in
    let n = c.args.node in
    record {
      ordered = after-push IsOrdered c.push.result old (old ++ n ∷ []) c.push.new.self c.push.ensures.ok c.push.ensures.err c.args.self.now.ordered (ordered-push old n c.requires.before c.args.self.now.ordered);
      spelt = after-push AreSpelt c.push.result old (old ++ n ∷ []) c.push.new.self c.push.ensures.ok c.push.ensures.err c.args.self.now.spelt (spelt-push old n c.requires.spelt c.args.self.now.spelt);
    }

pub returns-clause-grows : goal.returns-clause-grows
returns-clause-grows c = Grows-push c.args.self.now.nodes c.push.new.self c.args.node c.in_ok-push.ensures.ok

pub returns-clause-holds : goal.returns-clause-holds
returns-clause-holds c = Holds-push c.args.self.now.nodes c.push.new.self c.args.node c.len-place.result c.in_ok-push.ensures.ok c.len-place.ensures
