-- What is kept of a pattern that was not searched yet.
use Rattle.std.specs.Prelude.{◌≡◌, ℕ, true, false, List}
use Rattle.syntect_regex.specs.Begins.{BeginsAtEdges, BeginsAtLines, NoneBeginsBefore, NoneBeginsOutside}
use Rattle.syntect_regex.specs.Details.{KnowsGroups}
use Rattle.syntect_regex.specs.declared.outline.Outline.{Outline}

-- ---- What invariants alone rest on ----

-- what is kept is true of the pattern
pub record IsOutlineOf (pattern : List ℕ) (o : Outline) : Type 0 where
  pub begins : NoneBeginsOutside o.begins pattern
  pub edges : o.at_edges ≡ true → BeginsAtEdges pattern
  pub lines : o.at_lines ≡ true → BeginsAtLines pattern
  pub words : NoneBeginsBefore false o.details.words pattern
  pub blanks : NoneBeginsBefore true o.details.blanks pattern
  pub groups : KnowsGroups pattern o.details.looks
