use Rattle.std.proofs.Common.{◌≡◌, length, take}
use Rattle.syntect_theme_files.specs.syntect_scope.Repository.{IsRepository}
use Rattle.syntect_theme_files.specs.ThemeFiles.{AddsThemes}
use Rattle.syntect_theme_files.proofs.theme_set.ThemeSet.add_themes.Given as goal

abbrev pub invariant-loop-path : goal.invariant-loop-path
invariant-loop-path g l = record {
  added : AddsThemes (g.T.Tree.told l.tree) (take l.path-index l.paths) l.fn.repository l.fn.self.themes l.repository l.self.themes;
  whole : IsRepository l.repository;
  kept : take (length l.fn.repository) l.repository ≡ l.fn.repository;
}
