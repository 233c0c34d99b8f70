-- Plans that are kept while a text is read.
use Rattle.std.specs.Prelude.{◌≡◌, ℕ, false, List, Some, IfSome, IfNone, string_bytes}
use Rattle.std.specs.List.{All}
use Rattle.syntect_pattern_seek.specs.syntect_pattern.Trees.{Tree, group}
use Rattle.syntect_pattern_seek.specs.syntect_pattern.Pattern.{pattern_tree}
use Rattle.syntect_pattern_seek.specs.syntect_pattern_table.Program.{IsProgramOf}
use Rattle.syntect_pattern_seek.specs.syntect_pattern_table.declared.program.Program.{Program}
use Rattle.syntect_pattern_seek.specs.syntect_pattern_plan.Linear.{is_linear}
use Rattle.syntect_pattern_linear.specs.Guide.{IsGuideIn}
use Rattle.syntect_pattern_seek.specs.declared.depths.Depth.{Depth}

-- what is kept of a pattern in the text: its plan there, or that it is not linear
pub record IsDepthOf (s pattern : List ℕ) (d : Depth) : Type 0 where
  pub guides : IfSome d.guide (λ g. IsGuideIn s g)
  pub program : IfSome d.guide (λ g. (tree : Tree) → pattern_tree pattern ≡ Some tree
      → IsProgramOf g.program tree)
  pub hard : IfNone d.guide ((tree : Tree) → pattern_tree pattern ≡ Some tree
      → is_linear (group 0 tree) ≡ false)

-- all that is kept is so, of the pattern that it was kept of
abbrev pub AreDepthsIn : List ℕ → List Depth → Type 0
AreDepthsIn s depths = All (λ d. IsDepthOf s (string_bytes d.pattern) d) depths

-- ---- For proofs and private functions alone ----

-- the one program has the other one's tree
abbrev pub StandsFor : Program → Program → Type 0
StandsFor p q = (tree : Tree) → IsProgramOf p tree → IsProgramOf q tree
