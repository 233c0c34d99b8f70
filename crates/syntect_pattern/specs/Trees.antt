-- The tree of a pattern.
use Rattle.std.specs.Prelude.{ℕ, zero, suc, ◌+◌, Bool, true, false, ◌&&◌, ◌||◌, List, [], ◌∷◌, ◌++◌, Option, Some, None, if◌then◌else◌, ◌==◌}
use Rattle.syntect_pattern.specs.Sets.{Set}
use Rattle.syntect_pattern.specs.declared.anchor.Anchor.{Anchor}

-- a pattern as a tree: each part with the parts that it is made of
pub data Tree : Type 0 where
  -- reads nothing
  nothing : Tree
  one_of : Set → Tree
  -- reads nothing, where it holds
  anchor : Anchor → Tree
  -- the text of the group again; the flag says that by simple folding
  same : Bool → ℕ → Tree
  seq : Tree → Tree → Tree
  -- the first is preferred
  alt : Tree → Tree → Tree
  -- greedy or lazy, the least and the greatest number of turns
  repeat : Bool → ℕ → Option ℕ → Tree → Tree
  group : ℕ → Tree → Tree
  atomic : Tree → Tree
  -- what follows and what stands before; the flag says that it's negated
  ahead : Bool → Tree → Tree
  behind : Bool → Tree → Tree

-- one after another
abbrev pub seq_all : List Tree → Tree
seq_all [] = nothing
seq_all (a ∷ []) = a
seq_all (a ∷ b ∷ rest) = seq a (seq_all (b ∷ rest))

-- in order of preference
abbrev pub alt_all : List Tree → Tree
alt_all [] = nothing
alt_all (a ∷ []) = a
alt_all (a ∷ b ∷ rest) = alt a (alt_all (b ∷ rest))

-- how many groups the pattern has
abbrev pub group_count : Tree → ℕ
group_count (seq a b) = group_count a + group_count b
group_count (alt a b) = group_count a + group_count b
group_count (repeat greedy least most a) = group_count a
group_count (group n a) = 1 + group_count a
group_count (atomic a) = group_count a
group_count (ahead negated a) = group_count a
group_count (behind negated a) = group_count a
group_count _ = 0

-- there is a group of this number
abbrev pub has_group : Tree → ℕ → Bool
has_group (seq a b) n = has_group a n || has_group b n
has_group (alt a b) n = has_group a n || has_group b n
has_group (repeat greedy least most a) n = has_group a n
has_group (group k a) n = (k == n) || has_group a n
has_group (atomic a) n = has_group a n
has_group (ahead negated a) n = has_group a n
has_group (behind negated a) n = has_group a n
has_group _ n = false

-- the group of this number stands in a lookaround; the flag says that the tree does
abbrev pub in_look : Bool → Tree → ℕ → Bool
in_look look (seq a b) n = in_look look a n || in_look look b n
in_look look (alt a b) n = in_look look a n || in_look look b n
in_look look (repeat greedy least most a) n = in_look look a n
in_look look (group k a) n = (look && k == n) || in_look look a n
in_look look (atomic a) n = in_look look a n
in_look look (ahead negated a) n = in_look true a n
in_look look (behind negated a) n = in_look true a n
in_look look _ n = false

-- `Regex::group`: whether the group stands in a lookaround, which group 0, the whole match,
-- never does
abbrev pub group_in_look : Tree → ℕ → Option Bool
group_in_look tree zero = Some false
group_in_look tree (suc n) = if has_group tree (suc n) then Some (in_look false tree (suc n)) else None

-- the numbers of the groups, by their opening
abbrev pub numbers : Tree → List ℕ
numbers (seq a b) = numbers a ++ numbers b
numbers (alt a b) = numbers a ++ numbers b
numbers (repeat greedy least most a) = numbers a
numbers (group n a) = n ∷ numbers a
numbers (atomic a) = numbers a
numbers (ahead negated a) = numbers a
numbers (behind negated a) = numbers a
numbers _ = []
