use Rattle.std.specs.Path.{path_bytes}
use Rattle.syntect_theme_files.specs.ThemeFiles.{no_walk}
use Rattle.syntect_theme_files.proofs.FileLaws.{refused_in}
use Rattle.syntect_theme_files.proofs.theme_set.ThemeSet.add_from_folder.Goals as goal

pub returns-in-Ok-clause-err : goal.returns-in-Ok-clause-err
returns-in-Ok-clause-err g c =
    refused_in (g.T.Tree.told c.args.tree.now) c.add_themes.result (path_bytes c.args.folder) c.in-Ok.found c.as_slice.result.now c.args.repository.now c.add_themes.new.repository c.args.self.now.themes c.add_themes.new.self.themes
    c.in-Ok.ensures.ok c.as_slice.ensures c.add_themes.ensures.err

pub returns-in-Err-clause-err : goal.returns-in-Err-clause-err
returns-in-Err-clause-err g c = no_walk {found = c.in-Err.ensures.err.0} c.in-Err.ensures.err.1
