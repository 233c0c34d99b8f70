-- Variables, which a text names in double braces.
use Rattle.std.specs.Prelude.{ℕ, zero, suc, ◌+◌, Bool, not, ◌&&◌, ◌||◌, nat_lt, if◌then◌else◌, List, [], length, take, drop, slice_index, filter, flat_map, bytes_eq, Option, Some, None}
use Rattle.std.specs.List.{prefix_len}
use Rattle.std.specs.Map.{lookup}
use Rattle.std.specs.Char.{is_ascii_alphanumeric}
use Rattle.syntect_grammar_rewrite.specs.Cutting.{◌∈◌, first, parts, char_len}

-- the variables: names, each with its text
abbrev pub Variables : Type 0
Variables = List (List ℕ × List ℕ)

-- a letter, a digit or `_`, in ASCII
abbrev pub is_name : ℕ → Bool
is_name c = is_ascii_alphanumeric c || c ∈ "_"

-- how long the name after two braces is
abbrev pub name_len : List ℕ → ℕ
name_len t = prefix_len is_name (drop 2 t)

-- the name after two braces
abbrev pub name : List ℕ → List ℕ
name t = take (name_len t) (drop 2 t)

-- the text begins with `{{name}}`
unfoldable pub is_use : List ℕ → Bool
is_use t =
    (first t ∈ "{" && slice_index t 1 ∈ "{")
    && (nat_lt 0 (name_len t)
    && (slice_index t (name_len t + 2) ∈ "}" && slice_index t (name_len t + 3) ∈ "}"))

-- a character that stands for itself, or the use of a variable
pub data Part : Type 0 where
  itself : List ℕ → Part
  use_of : List ℕ → Part

-- how many bytes the first part has: the use of a variable, or one character
abbrev pub part_len : List ℕ → ℕ
part_len t = if is_use t then name_len t + 4 else char_len t

-- the first part of a text: the use of a variable, or one character
abbrev pub part : List ℕ → Part
part t = if is_use t then use_of (name t) else itself (take (char_len t) t)

-- the variables but this one
abbrev pub without : List ℕ → Variables → Variables
without name variables = filter (λ v. not (bytes_eq name v.0)) variables

-- what the use of a variable stands for: its text, expanded without that variable, or nothing
abbrev pub value_by : (Variables → List ℕ → List ℕ) → Variables → List ℕ → Option (List ℕ) → List ℕ
value_by expand variables name None = []
value_by expand variables name (Some text) = expand (without name variables) text

-- For the use of a variable its text is written, in which uses are expanded in turn, but not of
-- that variable. A name that is no variable's stands for nothing.
abbrev pub written_by : (Variables → List ℕ → List ℕ) → Variables → Part → List ℕ
written_by expand variables (itself c) = c
written_by expand variables (use_of name) =
    value_by expand variables name (lookup (bytes_eq name) variables)

-- a text with its variables expanded, fewer than n within one another
abbrev pub expanded_within : ℕ → Variables → List ℕ → List ℕ
expanded_within zero variables t = []
expanded_within (suc n) variables t =
    flat_map (written_by (expanded_within n) variables) (parts part_len part t)

-- a text with its variables expanded: no more can be within one another than there are
unfoldable pub expanded : Variables → List ℕ → List ℕ
expanded variables t = expanded_within (suc (length variables)) variables t
