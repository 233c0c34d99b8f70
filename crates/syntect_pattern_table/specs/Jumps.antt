-- Lists of branches, and jumps past some of them.
use Rattle.std.specs.Prelude.{◌≡◌, ℕ, suc, ◌+◌, ◌≤◌, ◌<◌, ◌||◌, List, [], ◌∷◌, length, slice_index_or}
use Rattle.std.specs.List.{All, list_any}
use Rattle.syntect_pattern.specs.Trees.{Tree, nothing, alt}
use Rattle.syntect_pattern.specs.Matches.{Groups, matches}
use Rattle.syntect_pattern_table.specs.Starts.{is_in, reads, stays}
use Rattle.syntect_pattern_table.specs.declared.jumps.Jump.{Jump}
use Rattle.syntect_pattern_table.specs.declared.starts.Places.{Places}

-- the first n branches of an alternation, whose second part may be one too
abbrev pub branches : ℕ → Tree → List Tree
branches (suc n) (alt a b) = a ∷ branches n b
branches n t = []

-- what comes after them
abbrev pub tree_behind : ℕ → Tree → Tree
tree_behind (suc n) (alt a b) = tree_behind n b
tree_behind n t = t

-- there are so many branches
abbrev pub HasBranches : ℕ → Tree → Type 0
HasBranches n t = length (branches n t) ≡ n

-- where matches of the branches that a jump passes can begin
abbrev pub places_of : Jump → Places
places_of j = record { ascii = j.ascii; wide = j.wide; end = j.end }

-- the jump leads from the node after its first branches, and it tells where matches of those begin
pub record IsJump (ts : List Tree) (k : ℕ) (j : Jump) : Type 0 where
  pub back : j.to + j.count ≤ k
  pub there : HasBranches j.count (slice_index_or ts k nothing)
  pub leads : slice_index_or ts j.to nothing ≡ tree_behind j.count (slice_index_or ts k nothing)
  pub begins : (x : ℕ) → x < 130 → is_in (places_of j) x
      ≡ list_any (λ t. reads t x || stays t x) (branches j.count (slice_index_or ts k nothing))

-- so are the jumps of the nodes from this one on
abbrev pub AreJumps : ℕ → List Jump → List Tree → Type 0
AreJumps from js ts = (k : ℕ) (d : Jump) → k < length js
    → IsJump ts (from + k) (slice_index_or js k d)

-- the rest comes after branches of the tree that have no match at the place
pub record LeadsPast (s : List ℕ) (i : ℕ) (t rest : Tree) : Type 0 where
  pub count : ℕ
  pub some : 0 < count
  pub there : HasBranches count t
  pub leads : rest ≡ tree_behind count t
  pub dead : All (λ b. (g : Groups) → matches s b i g ≡ []) (branches count t)

-- ---- For proofs and private functions alone ----

-- the jump to a node past so many branches, whose matches can begin there
abbrev pub jump_to : ℕ → ℕ → Places → Jump
jump_to to count p = record { ascii = p.ascii; to = to; count = count; wide = p.wide; end = p.end }
