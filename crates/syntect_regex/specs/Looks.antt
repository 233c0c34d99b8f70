-- Which groups of a table of nodes stand in lookarounds.
use Rattle.std.specs.Prelude.{◌≡◌, ◌<◌, ℕ, zero, suc, Bool, true, false, ◌||◌, ◌==◌, List, Option, Some, None, if◌then◌else◌, slice_index_or, slice_set}
use Rattle.syntect_regex.specs.syntect_pattern.Trees.{Tree, nothing, seq, alt, repeat, group, atomic, ahead, behind, group_in_look}
use Rattle.syntect_regex.specs.syntect_pattern_table.Builder.{tree_in}
use Rattle.syntect_regex.specs.syntect_pattern_table.declared.node.Node.{Node}

-- ---- For proofs and private functions alone ----

-- it is kept of each group but the whole match whether it is there,
-- and whether it stands in a lookaround
abbrev pub AreLooks : List Node → ℕ → List (Option Bool) → Type 0
AreLooks nodes root looks = (n : ℕ) (tree : Tree) → tree_in nodes root ≡ group 0 tree
    → slice_index_or looks (suc n) None ≡ group_in_look tree (suc n)

-- -- A walk from the root to the parts
-- A mark tells of a node or a group whether it was met, and if so whether it
-- was within a lookaround.

-- both marks
abbrev pub joined : Option Bool → Option Bool → Option Bool
joined None m = m
joined (Some a) None = Some a
joined (Some a) (Some b) = Some (a || b)

-- the mark of what stands in a lookaround
abbrev pub looked_at : Option Bool → Option Bool
looked_at None = None
looked_at (Some a) = Some true

-- the mark of the group with the number, by the mark of the tree
abbrev pub met_in : Option Bool → Tree → ℕ → Option Bool
met_in m (seq a b) n = joined (met_in m a n) (met_in m b n)
met_in m (alt a b) n = joined (met_in m a n) (met_in m b n)
met_in m (repeat greedy least most a) n = met_in m a n
met_in m (group k a) n = joined (if k == n then m else None) (met_in m a n)
met_in m (atomic a) n = met_in m a n
met_in m (ahead negated a) n = met_in (looked_at m) a n
met_in m (behind negated a) n = met_in (looked_at m) a n
met_in m _ n = None

-- the same by the marks of the trees before the place
abbrev pub met_before : List (Option Bool) → List Tree → ℕ → ℕ → Option Bool
met_before marks ts zero n = None
met_before marks ts (suc k) n =
    joined (met_in (slice_index_or marks k None) (slice_index_or ts k nothing) n)
    (met_before marks ts k n)

-- the marks with one more at the place
abbrev pub marked : List (Option Bool) → ℕ → Bool → List (Option Bool)
marked marks k within = slice_set marks k (joined (slice_index_or marks k None) (Some within))

-- the marks with those of the parts of a node
abbrev pub passed_on : List (Option Bool) → Bool → Node → List (Option Bool)
passed_on marks within (Node.Text l a) = marked marks a within
passed_on marks within (Node.Sequence a b) = marked (marked marks a within) b within
passed_on marks within (Node.Alternation a b) = marked (marked marks a within) b within
passed_on marks within (Node.Repeat greedy least most a) = marked marks a within
passed_on marks within (Node.Group k a) = marked marks a within
passed_on marks within (Node.Atomic a) = marked marks a within
passed_on marks within (Node.Ahead negated a) = marked marks a true
passed_on marks within (Node.Behind negated a) = marked marks a true
passed_on marks within _ = marks

-- the mark of the group with the number, by the mark of a node that may be it
abbrev pub own_mark : Bool → Node → ℕ → Option Bool
own_mark within (Node.Group k a) n = if k == n then Some within else None
own_mark within _ n = None

abbrev pub is_group : Node → Bool
is_group (Node.Group k a) = true
is_group _ = false

-- none of the nodes before the place is a group
abbrev pub NoGroupBefore : List Node → ℕ → Type 0
NoGroupBefore nodes place = (k : ℕ) → k < place
    → is_group (slice_index_or nodes k Node.Nothing) ≡ false
