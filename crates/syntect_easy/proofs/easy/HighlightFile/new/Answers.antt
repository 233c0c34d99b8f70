use Rattle.std.specs.Path.{path_bytes}
use Rattle.syntect_easy.specs.Files.{IsFileFault}
use Rattle.syntect_easy.proofs.FileLaws.{told_unlimited, refused_unlimited}
use Rattle.syntect_easy.proofs.easy.HighlightFile.new.Goals as goal

pub returns-in-Ok-clause-unread : goal.returns-in-Ok-clause-unread
returns-in-Ok-clause-unread g c =
    let u = c.in-Ok.ensures.unread in (
      u.0,
      u.1,
      u.2,
      told_unlimited c.unlimited-limits.result c.args.ss.now (path_bytes c.args.path) u.0 u.1 c.in-Ok.field-0-1 c.unlimited-limits.ensures u.3,
      u.4,
      u.5,
    )

pub returns-in-Err-clause-refused : goal.returns-in-Err-clause-refused
returns-in-Err-clause-refused g c =
    refused_unlimited (IsFileFault (g.T.Tree.told c.args.tree.now) (path_bytes c.args.path)) c.unlimited-limits.result c.args.ss.now (path_bytes c.args.path) c.in-Err.e c.unlimited-limits.ensures c.in-Err.ensures.refused
