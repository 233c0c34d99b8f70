-- A program that stands for a text.
use Rattle.std.specs.Prelude.{◌≡◌, ℕ, List, Option, Some, None, length, option_map}
use Rattle.syntect_pattern.specs.Trees.{Tree, group_count}
use Rattle.syntect_pattern.specs.Pattern.{pattern_tree}
use Rattle.syntect_pattern_table.specs.Program.{IsProgramOf}
use Rattle.syntect_pattern.specs.Grammar.{Names}
use Rattle.syntect_pattern_table.specs.Builder.{tree_in}
use Rattle.syntect_pattern_table.specs.declared.program.Program.{Program}
use Rattle.syntect_pattern_compile.specs.declared.reader.Reader.{Reader}

-- the text is a pattern, and the program is that of its tree
pub record IsCompiled (pattern : List ℕ) (p : Program) : Type 0 where
  pub tree : Tree
  pub reads : pattern_tree pattern ≡ Some tree
  pub program : IsProgramOf p tree

-- the program is that of the text, or there is none and the text is no pattern
abbrev pub Compiles : List ℕ → Option Program → Type 0
Compiles pattern None = pattern_tree pattern ≡ None
Compiles pattern (Some p) = IsCompiled pattern p

-- ---- For proofs and private functions alone ----

-- the tree of a whole text and its groups
abbrev pub whole_as : Option (Reader × ℕ) → Option (Tree × Names)
whole_as found = option_map (λ f. (tree_in f.0.builder.nodes f.1, f.0.names)) found

-- the tree alone
abbrev pub tree_read : Option (Reader × ℕ) → Option Tree
tree_read found = option_map (λ f. tree_in f.0.builder.nodes f.1) found

-- the reader has met as many groups as the tree has
abbrev pub CountsGroups : Reader × ℕ → Type 0
CountsGroups x = group_count (tree_in x.0.builder.nodes x.1) ≡ length x.0.names
