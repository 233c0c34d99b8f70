-- What is known of what a tree's matches need.
use Rattle.std.specs.Prelude.{◌≡◌, ◌<◌, ◌==◌, ℕ, Bool, true, false, ◌||◌, List, length}
use Rattle.syntect_pattern.specs.Trees.{Tree, one_of}
use Rattle.syntect_pattern_table.specs.Needs.{Needs}
use Rattle.syntect_pattern_table.specs.Starts.{AreFirsts, is_in, reads, stays}
use Rattle.syntect_pattern_table.specs.Table.{IsOrdered, trees}
use Rattle.syntect_pattern_table.specs.declared.node.Node.{Node}
use Rattle.syntect_pattern_table.specs.declared.starts.Places.{Places}
use Rattle.syntect_pattern_compile.specs.declared.needs.Sought.{Sought}
use Rattle.syntect_pattern_compile.specs.declared.needs.Found.{Found}

-- ---- For proofs and private functions alone ----

-- nodes, and where matches of each begin
pub record IsTable (nodes : List Node) (firsts : List Places) : Type 0 where
  pub ordered : IsOrdered nodes
  pub count : length firsts ≡ length nodes
  pub begun : AreFirsts firsts (trees nodes)

-- where matches of the tree can begin
abbrev pub BeginsIn : Places → Tree → Type 0
BeginsIn places t = (x : ℕ) → x < 130 → is_in places x ≡ (reads t x || stays t x)

-- these are the one ASCII character
abbrev pub AreJust : Places → ℕ → Type 0
AreJust places byte = (byte < 128) × ((x : ℕ) → x < 130 → is_in places x ≡ (x == byte))

-- the tree is a single character
abbrev pub is_one : Tree → Bool
is_one (one_of a) = true
is_one _ = false

-- what is sought is needed by the tree
abbrev pub IsNeeded : Sought → Tree → Type 0
IsNeeded x t = Needs (is_in x.here) (is_in x.next) t

-- so are both that were found
abbrev pub BothAreNeeded : Found → Tree → Type 0
BothAreNeeded found t = IsNeeded found.rarest t × IsNeeded found.other t

-- what the first tree needs the other one needs as well
abbrev pub PassesNeeds : Tree → Tree → Type 0
PassesNeeds x t = (here next : ℕ → Bool) → Needs here next x → Needs here next t

-- what is sought is among these
abbrev pub IsAmong : Sought → (ℕ → Bool) → (ℕ → Bool) → Type 0
IsAmong x here next =
    ((k : ℕ) → is_in x.here k ≡ true → here k ≡ true)
    × ((k : ℕ) → is_in x.next k ≡ true → next k ≡ true)
