-- How many steps the rows take.
use Rattle.std.specs.Prelude.{◌≡◌, ℕ, zero, suc, ◌+◌, ◌-◌, ◌*◌, ◌≤◌, ◌||◌, if◌then◌else◌, List, [], ◌∷◌, length, Option, Some, None, slice_index_or}
use Rattle.syntect_pattern_linear.specs.syntect_pattern.Text.{is_boundary}
use Rattle.syntect_pattern_linear.specs.syntect_pattern.Trees.{Tree, seq, alt, repeat, group, atomic, ahead}
use Rattle.syntect_pattern_linear.specs.syntect_pattern_table.Program.{trees_of}
use Rattle.syntect_pattern_plan.specs.Onward.{is_bare}
use Rattle.syntect_pattern_plan.specs.Cells.{cell_at, item_tree}
use Rattle.syntect_pattern_linear.specs.Ground.{height_of}
use Rattle.syntect_pattern_linear.specs.declared.ground.Ground.{Ground}

-- of how many cells nothing is known yet
abbrev pub unknown : List (Option (Option ℕ)) → ℕ
unknown [] = 0
unknown (None ∷ now) = suc (unknown now)
unknown (Some o ∷ now) = unknown now

-- Steps at a place, none of which is taken back: what is known of cells that are as high as this or
-- higher stays, and the steps are paid for by what became known, but for a few.
pub record Takes (x : Ground) (high : ℕ) (old : List (Option (Option ℕ))) (before : ℕ)
    (new : List (Option (Option ℕ))) (after few : ℕ) : Type 0 where
  pub long : length new ≡ length old
  pub kept : (j : ℕ) → high ≤ height_of x j → slice_index_or new j None ≡ slice_index_or old j None
  pub paid : after + 4 * unknown new ≤ before + 4 * unknown old + few
  pub counts : before ≤ after

-- at how many of the last so many places of the text a character begins, or the text ends
abbrev pub stops : List ℕ → ℕ → ℕ
stops s zero = 0
stops s (suc n) = stops s n + (if is_boundary s (length s - n) then 1 else 0)

-- how many steps a walk through the tree takes where it reads nothing
abbrev pub stay_cost : Tree → ℕ
stay_cost (seq a b) = suc (stay_cost a + stay_cost b)
stay_cost (alt a b) = suc (stay_cost a + stay_cost b)
stay_cost (repeat greedy least most a) = suc (stay_cost a)
stay_cost (group n a) = suc (stay_cost a)
stay_cost (atomic a) = suc (stay_cost a)
stay_cost _ = 1

-- how many more for each byte that it reads: each turn of a loop goes into its body again
abbrev pub read_cost : Tree → ℕ
read_cost (seq a b) = read_cost a + read_cost b
read_cost (alt a b) = read_cost a + read_cost b
read_cost (repeat greedy least most a) = stay_cost a + read_cost a
read_cost (group n a) = read_cost a
read_cost (atomic a) = read_cost a
read_cost _ = 0

-- both together
abbrev pub walk_cost : Tree → ℕ
walk_cost t = stay_cost t + read_cost t

-- how many more it takes for each byte of the text, for lookaheads that set groups
abbrev pub look_cost : Tree → ℕ
look_cost (seq a b) = look_cost a + look_cost b
look_cost (alt a b) = look_cost a + look_cost b
look_cost (repeat greedy least most a) = look_cost a
look_cost (group n a) = look_cost a
look_cost (atomic a) = look_cost a
look_cost (ahead negated a) = if negated || is_bare a then 0 else walk_cost a + look_cost a
look_cost _ = 0

-- the steps of a walk through a tree
abbrev pub Within : ℕ → Tree → ℕ → ℕ → ℕ → ℕ → Type 0
Within long t place end before after =
    after ≤ before + (stay_cost t + read_cost t * (end - place) + look_cost t * suc long)

-- the same of a cell's tree
pub record Costs (x : Ground) (k place before end after : ℕ) : Type 0 where
  pub steps : Within (length x.text.now)
      (item_tree (trees_of x.program.now) (cell_at x.plan.now.cells k).item) place end before after

-- how many steps a search takes for each byte of the text, in a plan of so many cells for the tree
abbrev pub step_weight : ℕ → Tree → ℕ
step_weight cells t = 7 * cells + (walk_cost t + look_cost t)
