use Rattle.std.proofs.Common.{length, map, take}
use Rattle.std.specs.Path.{path_buf_bytes}
use Rattle.syntect_assets.proofs.LoadingLaws.{AddsSome}
use Rattle.syntect_assets.proofs.builder.add_themes_that_load.Given as goal

-- the themes of the paths so far are added, or told
abbrev pub invariant-loop-path : goal.invariant-loop-path
invariant-loop-path g l =
    AddsSome (g.T.Tree.told l.tree) (map path_buf_bytes (take l.path-index l.path-items)) l.fn.repository l.fn.themes.themes (length l.fn.told.items) l.repository l.themes.themes (length l.told.items)
