-- What reading a line asks of the pattern engine, and the one that is meant.
use Rattle.std.specs.Prelude.{ℕ, Bool, false, List, Option, unwrap_or}
use Rattle.std.specs.Option.{option_and_then}
use Rattle.syntect_reading_choice.specs.syntect_pattern.Trees.{group_in_look}
use Rattle.syntect_reading_choice.specs.syntect_pattern.Pattern.{pattern_tree, pattern_found}
use Rattle.syntect_reading_choice.specs.syntect_grammar_contexts.Substitution.{Groups, substituted}

-- Patterns are given by their texts.
pub record Engine : Type 0 where
  -- the match of a pattern in a line: the first one at the least place not below this one
  pub found : List ℕ → List ℕ → ℕ → Option Groups
  -- whether the group of this number stands in a lookaround of the pattern
  pub in_lookaround : List ℕ → ℕ → Bool
  -- the pattern with its back references replaced by the groups of a match in this line
  pub substituted : List ℕ → Groups → List ℕ → List ℕ

-- the engine of the dialect that patterns are written in
abbrev pub dialect : Engine
dialect = record {
  found = pattern_found;
  in_lookaround =
      λ pattern group. unwrap_or (option_and_then (λ tree. group_in_look tree group)
      (pattern_tree pattern)) false;
  substituted = substituted;
}
