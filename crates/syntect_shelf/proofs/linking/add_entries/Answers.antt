use Rattle.std.proofs.Common.{rules, ◌∙◌}
use Rattle.syntect_shelf.proofs.LinkingLaws.{goes_on, all_gone, kept_by}
use Rattle.syntect_shelf.proofs.linking.add_entries.Goals as goal

pub loop-path-preserved : goal.loop-path-preserved
loop-path-preserved g c =
    let adds = c.in-Ok.ensures.ok in
    let kept = kept_by (g.T.Tree.told c.args.tree.now) c.as_str.result.now c.loop-path.builder c.add_metadata.new.self adds in
    record {
      goes = goes_on (g.T.Tree.told c.args.tree.now) c.args.metadata.now c.loop-path.path-index c.path-item.result c.as_str.result.now c.args.builder.now c.loop-path.builder c.add_metadata.new.self (search rules) c.path-item.is c.as_str.ensures c.loop-path.invariant.goes adds;
      definitions = kept.0 ∙ c.loop-path.invariant.definitions;
      paths = kept.1 ∙ c.loop-path.invariant.paths;
    }

pub returns-clause-added : goal.returns-clause-added
returns-clause-added g c = all_gone (g.T.Tree.told c.args.tree.now) c.args.metadata.now c.loop-path.path-index c.args.builder.now c.loop-path.builder (search rules) c.loop-path.invariant.goes
