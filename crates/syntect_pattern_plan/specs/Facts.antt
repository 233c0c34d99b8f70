-- What the matches of nodes have in common.
use Rattle.std.specs.Prelude.{◌≡◌, ℕ, List, slice_index_or}
use Rattle.syntect_pattern_plan.specs.syntect_pattern.Trees.{Tree, nothing}
use Rattle.syntect_pattern_plan.specs.Onward.{reads, plain, is_free, is_bare, is_calm}
use Rattle.syntect_pattern_plan.specs.declared.facts.Facts.{Facts}

-- what is known of a tree
abbrev pub facts_of : Tree → Facts
facts_of t = record {
  reads = reads t;
  plain = plain t;
  free = is_free t;
  bare = is_bare t;
  calm = is_calm t;
}

-- what is known of the node with the number
abbrev pub facts_at : List Facts → ℕ → Facts
facts_at fs n = slice_index_or fs n (facts_of nothing)

-- this is known of each of the trees
abbrev pub AreFacts : List Facts → List Tree → Type 0
AreFacts fs ts = (n : ℕ) → facts_at fs n ≡ facts_of (slice_index_or ts n nothing)
