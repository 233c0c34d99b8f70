-- What a search finds.
use Rattle.std.specs.Prelude.{◌≡◌, ℕ, suc, ◌+◌, ◌<◌, Bool, true, false, List, length, Option, Some, None, IsUtf8}
use Rattle.syntect_pattern_linear.specs.syntect_pattern.Trees.{Tree}
use Rattle.syntect_pattern_linear.specs.syntect_pattern.Matches.{Groups, found_at, found}
use Rattle.syntect_pattern_linear.specs.syntect_pattern_table.Program.{trees_of, IsProgramOf}
use Rattle.syntect_pattern_linear.specs.syntect_pattern_table.declared.program.Program.{Program}
use Rattle.syntect_pattern_plan.specs.PlanOf.{IsPlanOf}
use Rattle.syntect_pattern_linear.specs.Marks.{AreMarks}
use Rattle.syntect_pattern_plan.specs.Sights.{AreSights}
use Rattle.syntect_pattern_linear.specs.declared.ground.Ground.{Ground}

-- the groups of the match that was found, if one was
abbrev pub groups_of : Bool → Groups → Option Groups
groups_of true g = Some g
groups_of false g = None

-- these are the groups of the match that the program's tree has at the place, if it has any
abbrev pub FindsAt : List ℕ → Program → ℕ → Option Groups → Type 0
FindsAt s p place groups = (tree : Tree) → IsProgramOf p tree → groups ≡ found_at s tree place

-- these are the groups of that match, which begins at the last place or before; or none does, and
-- what is found from the place on is found from just after the last
abbrev pub FindsUpTo : List ℕ → Program → ℕ → ℕ → Option Groups → Type 0
FindsUpTo s p from last None =
    (tree : Tree) → IsProgramOf p tree → found s tree from ≡ found s tree (suc last)
FindsUpTo s p from last (Some groups) =
    (tree : Tree) → IsProgramOf p tree → found s tree from ≡ Some groups

-- ---- For proofs and private functions alone ----

-- these are the groups of the match that the program's tree has at the least place not below this
-- one, if it has any
abbrev pub FindsGroups : List ℕ → Program → ℕ → Option Groups → Type 0
FindsGroups s p from groups = (tree : Tree) → IsProgramOf p tree → groups ≡ found s tree from

-- the marks are there of all places from this one on
pub record Covers (x : Ground) (marks : List (List Bool)) (begin : ℕ) : Type 0 where
  pub utf8 : IsUtf8 x.text.now
  pub plan_is : IsPlanOf x.program.now x.plan.now
  pub sights_are : AreSights x.text.now (trees_of x.program.now) x.plan.now.behinds x.sights.now
  pub marks_are : AreMarks x.text.now (trees_of x.program.now) x.plan.now.cells marks
  pub count : length x.text.now < length marks + begin
