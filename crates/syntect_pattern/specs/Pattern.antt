-- A pattern and a search that are given as bytes.
use Rattle.std.specs.Prelude.{ℕ, List, Option, chars}
use Rattle.syntect_pattern.specs.Trees.{Tree}
use Rattle.syntect_pattern.specs.Matches.{Groups, found}
use Rattle.syntect_pattern.specs.Reading.{◌>>=◌}
use Rattle.syntect_pattern.specs.Grammar.{tree_of}

-- the tree of a pattern; none where the text is no pattern
abbrev pub pattern_tree : List ℕ → Option Tree
pattern_tree pattern = tree_of (chars pattern)

-- the groups of the first match of the pattern in the text at the least place not below this one
abbrev pub pattern_found : List ℕ → List ℕ → ℕ → Option Groups
pattern_found pattern s from = pattern_tree pattern >>= λ tree. found s tree from
