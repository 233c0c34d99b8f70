-- How many steps a search takes at most.
use Rattle.std.specs.Prelude.{ℕ, ◌+◌, ◌*◌, Bool, true, List, Option, Some, None, length}
use Rattle.syntect_regex.specs.syntect_pattern.Trees.{Tree, group}
use Rattle.syntect_regex.specs.syntect_pattern.Pattern.{pattern_tree}
use Rattle.syntect_regex.specs.syntect_pattern_plan.Linear.{is_linear}
use Rattle.syntect_pattern_seek.specs.Bounds.{tree_bound}

-- the whole match is group 0
abbrev pub is_linear_whole : Option Tree → Bool
is_linear_whole None = true
is_linear_whole (Some t) = is_linear (group 0 t)

-- what is no pattern takes no step but those that each try counts
abbrev pub whole_bound : Option Tree → ℕ → ℕ → ℕ
whole_bound None size long = long * 64 + 16384
whole_bound (Some t) size long = tree_bound (group 0 t) size long

-- Each search of the pattern takes steps in proportion to the text: it has no back reference, its
-- lookbehinds look for nothing but characters, anchors, sequences and branches, and, if they are
-- negated, groups, no lookahead sets groups in a loop of more turns than one, and its plan is not
-- too large.
abbrev pub pattern_is_linear : List ℕ → Bool
pattern_is_linear pattern = is_linear_whole (pattern_tree pattern)

-- the most steps that a search of the pattern takes in a text so long, where it is linear
abbrev pub search_bound : List ℕ → ℕ → ℕ
search_bound pattern long = whole_bound (pattern_tree pattern) (length pattern) long
