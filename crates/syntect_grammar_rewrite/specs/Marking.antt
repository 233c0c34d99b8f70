-- Variables, expanded with a mark for each use.
use Rattle.std.specs.Prelude.{ℕ, zero, suc, List, [], ◌++◌, length, flat_map, bytes_eq, Option, Some, None}
use Rattle.std.specs.Map.{lookup}
use Rattle.syntect_grammar_rewrite.specs.Cutting.{parts}
use Rattle.syntect_grammar_rewrite.specs.Variables.{Variables, Part, itself, use_of, part_len, part, without}

-- for the use of a variable a mark is written, and then its text
abbrev pub marked_value : List ℕ → (Variables → List ℕ → List ℕ) → Variables → List ℕ
    → Option (List ℕ) → List ℕ
marked_value mark expand variables name None = mark
marked_value mark expand variables name (Some text) = mark ++ expand (without name variables) text

abbrev pub marked_part : List ℕ → (Variables → List ℕ → List ℕ) → Variables → Part → List ℕ
marked_part mark expand variables (itself c) = c
marked_part mark expand variables (use_of name) =
    marked_value mark expand variables name (lookup (bytes_eq name) variables)

abbrev pub marked_within : List ℕ → ℕ → Variables → List ℕ → List ℕ
marked_within mark zero variables t = []
marked_within mark (suc n) variables t =
    flat_map (marked_part mark (marked_within mark n) variables) (parts part_len part t)

-- a text with its variables expanded, with a mark for each use: those of the text, and those of a
-- variable's text each time that it is used
unfoldable pub marked : List ℕ → Variables → List ℕ → List ℕ
marked mark variables t = marked_within mark (suc (length variables)) variables t
