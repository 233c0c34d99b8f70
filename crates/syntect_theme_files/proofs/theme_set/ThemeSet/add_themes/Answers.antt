use Rattle.syntect_theme_files.specs.ThemeFiles.{no_more}
use Rattle.syntect_theme_files.proofs.FileLaws.{adds_next, stops_at, keeps_itself, keeps_on}
use Rattle.syntect_theme_files.proofs.theme_set.ThemeSet.add_themes.Goals as goal

pub loop-path-init : goal.loop-path-init
loop-path-init g c = record { added = no_more; whole = c.is_whole.ensures; kept = keeps_itself c.args.repository.now }

pub loop-path-preserved : goal.loop-path-preserved
loop-path-preserved g c = record {
  added = adds_next (g.T.Tree.told c.args.tree.now) c.args.paths.now c.loop-path.path-index c.path-item.result c.as_str.result.now c.args.repository.now c.loop-path.repository c.add_theme.new.repository
      c.args.self.now.themes c.loop-path.self.themes c.add_theme.new.self.themes c.loop-path-test.true c.path-item.is c.as_str.ensures c.loop-path.invariant.added c.in-Ok.ensures.ok;
  whole = c.add_theme.ensures.whole;
  kept = keeps_on c.args.repository.now c.loop-path.repository c.add_theme.new.repository c.loop-path.invariant.kept c.add_theme.ensures.kept;
}

pub returns-in-Err-clause-err : goal.returns-in-Err-clause-err
returns-in-Err-clause-err g c =
    stops_at (g.T.Tree.told c.args.tree.now) c.args.paths.now c.loop-path.path-index c.path-item.result c.as_str.result.now c.args.repository.now c.loop-path.repository
    c.args.self.now.themes c.loop-path.self.themes c.add_theme.new.self.themes c.in-Err.e c.loop-path-test.true c.path-item.is c.as_str.ensures c.loop-path.invariant.added
    c.in-Err.ensures.err c.in-Err.ensures.theme c.in-Err.ensures.refusal
