use Rattle.std.proofs.Common.{◌≡◌, ℕ, List, take}
use Rattle.std.specs.Cmp.Lexicographic.{slice_cmp}
use Rattle.std.specs.Ordering.{nat_cmp}
use Rattle.std.specs.BTreeMap as tree
use Rattle.syntect_grammar_linker.specs.References.{last_that, has_name}
use Rattle.syntect_grammar_linker.proofs.directory.last_by_name.Given as goal

abbrev pub invariant-loop-place : goal.invariant-loop-place
invariant-loop-place l = (name : List ℕ) → tree.get_by (λ k. slice_cmp nat_cmp name k.now) l.places ≡ last_that (has_name name) (take l.place l.heads)
