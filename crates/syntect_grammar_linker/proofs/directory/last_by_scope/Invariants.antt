use Rattle.std.proofs.Common.{◌≡◌, ℕ, List, take}
use Rattle.std.specs.Cmp.Lexicographic.{slice_cmp}
use Rattle.std.specs.Ordering.{nat_cmp}
use Rattle.std.specs.BTreeMap as tree
use Rattle.syntect_grammar_linker.specs.References.{last_that, has_scope}
use Rattle.syntect_grammar_linker.proofs.directory.last_by_scope.Given as goal

abbrev pub invariant-loop-place : goal.invariant-loop-place
invariant-loop-place l = (scope : List ℕ) → tree.get (slice_cmp nat_cmp) l.places scope ≡ last_that (has_scope scope) (take l.place l.heads)
