use Rattle.std.proofs.Common.{◌≡◌, ◌++◌, map, drop, is_some}
use Rattle.std.specs.List.{filter}
use Rattle.std.specs.Path.{path_buf_bytes}
use Rattle.syntect_theme_files.specs.ThemeFiles.{theme_name}
use Rattle.syntect_theme_files.proofs.theme_set.ThemeSet.discover_theme_paths.Given as goal

abbrev pub invariant-loop-path : goal.invariant-loop-path
invariant-loop-path g l = record {
  rest : map path_buf_bytes l.paths.items ++ filter (λ path. is_some (theme_name path)) (drop l.path-index l.path-items) ≡ filter (λ path. is_some (theme_name path)) l.path-items;
}
