-- How many steps a search takes at most.
use Rattle.std.specs.Prelude.{◌≡◌, ℕ, ◌+◌, ◌*◌, ◌≤◌, true, min, slice_index_or}
use Rattle.syntect_pattern_seek.specs.syntect_pattern.Trees.{Tree, nothing}
use Rattle.syntect_pattern_seek.specs.syntect_pattern_table.Program.{trees_of}
use Rattle.syntect_pattern_seek.specs.syntect_pattern_table.declared.program.Program.{Program}
use Rattle.syntect_pattern_linear.specs.Linear.{planned_steps}
use Rattle.syntect_pattern_seek.specs.syntect_pattern_plan.Linear.{is_linear, most_cells}

-- A search by a pattern of so many bytes, in a text so long, backs up in at most sixty-four steps
-- for each byte of the text, for each byte of the pattern sixteen, or as many as the text has bytes
-- where it has fewer, and 16384 besides; as many bytes of the pattern count as a plan has cells at
-- most. Where they don't suffice, it goes on by the tree's plan.
abbrev pub tree_bound : Tree → ℕ → ℕ → ℕ
tree_bound t size long =
    long * 64 + min size most_cells * min long 16 + 16384 + planned_steps t long

-- The same of a try, of many at place after place: it backs up in at most eight steps for each byte
-- of the text, and 2048 besides them and those for the pattern.
abbrev pub tried_bound : Tree → ℕ → ℕ → ℕ
tried_bound t size long = long * 8 + min size most_cells * min long 16 + 2048 + planned_steps t long

-- the tree of a program
abbrev pub root_tree : Program → Tree
root_tree p = slice_index_or (trees_of p) p.root nothing

-- the steps of a search are within the bound, by a pattern of so many bytes in a text so long,
-- where the program is linear
abbrev pub IsWithinBound : Program → ℕ → ℕ → ℕ → ℕ → Type 0
IsWithinBound p size long before after = is_linear (root_tree p) ≡ true
    → after ≤ before + tree_bound (root_tree p) size long

-- the same of a try
abbrev pub IsWithinTry : Program → ℕ → ℕ → ℕ → ℕ → Type 0
IsWithinTry p size long before after = is_linear (root_tree p) ≡ true
    → after ≤ before + tried_bound (root_tree p) size long

-- ---- For proofs and private functions alone ----

-- the same of the steps by its plan alone
abbrev pub IsWithinPlan : Program → ℕ → ℕ → ℕ → Type 0
IsWithinPlan p long before after = is_linear (root_tree p) ≡ true
    → after ≤ before + planned_steps (root_tree p) long
