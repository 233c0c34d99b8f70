-- A value over lines: each entry of a map and each item of a list on lines of its own, what is
-- inside of it further right.
use Rattle.std.specs.Prelude.{ℕ, ◌+◌, ◌&&◌, nat_lt, Bool, true, false, if◌then◌else◌, List, [], ◌∷◌, ◌++◌, codes}
use Rattle.syntect_yaml.specs.Node.{Node, scalar, list, map}
use Rattle.syntect_yaml.specs.Node.{Items, no_items, item, Entries, no_entries, entry}
use Rattle.syntect_yaml.specs.declared.value.Scalar.{Scalar}
use Rattle.syntect_yaml.specs.declared.value.Scalar.TheVariants.{Text, Number, Truth, Null}
use Rattle.syntect_laws.specs.YamlTexts.{Style, plain, single_quotes, double_quotes, literal, styled_text}
use Rattle.syntect_laws.specs.Literal.{indent, is_literal, literal_text}
use Rattle.syntect_laws.specs.Flow.{scalar_text}

-- A text has lines of its own where its style asks for them and it can stand so, but in the first
-- column: a line there could be a marker of documents.
abbrev pub stands_literal : ℕ → Style → List ℕ → Bool
stands_literal column plain s = false
stands_literal column single_quotes s = false
stands_literal column double_quotes s = false
stands_literal column literal s = nat_lt 0 column && is_literal s

-- the value begins after its key: a scalar, or a list or map without parts
abbrev pub is_short : Node → Bool
is_short (scalar s) = true
is_short (list no_items) = true
is_short (list (item v vs)) = false
is_short (map no_entries) = true
is_short (map (entry k v es)) = false

-- what stands between the colon of a key and its value: a space before such a value, and else a
-- line feed and the spaces up to the value's column
abbrev pub before_value : ℕ → Node → List ℕ
before_value column v = if is_short v then codes " " else 10 ∷ indent column

-- where each text has a style
module _ (style : List ℕ → Style) where
  -- the lines of a scalar
  abbrev pub scalar_lines : ℕ → Scalar → List ℕ
  scalar_lines column (Text s) =
      if stands_literal column (style s) s then literal_text column s
      else styled_text (style s) s ++ codes "\n"
  scalar_lines column (Number z) = scalar_text style (Number z) ++ codes "\n"
  scalar_lines column (Truth b) = scalar_text style (Truth b) ++ codes "\n"
  scalar_lines column Null = scalar_text style Null ++ codes "\n"

  abbrev mutual
    -- the lines of a value that begins at a column: of the first what stands from there on, each
    -- with its line feed
    pub block_text : ℕ → Node → List ℕ
    block_text column (scalar s) = scalar_lines column s
    block_text column (list vs) = items_lines column vs
    block_text column (map es) = entries_lines column es

    -- an item is a minus, a space and the value, which begins after them
    pub items_lines : ℕ → Items → List ℕ
    items_lines column no_items = codes "[]\n"
    items_lines column (item v vs) =
        codes "- " ++ (block_text (column + 2) v ++ more_items_lines column vs)

    -- those after the first, each on a line that begins with spaces
    pub more_items_lines : ℕ → Items → List ℕ
    more_items_lines column no_items = []
    more_items_lines column (item v vs) =
        indent column ++ (codes "- " ++ (block_text (column + 2) v ++ more_items_lines column vs))

    -- an entry is the key, a colon and the value, on the same line or two columns further right on
    -- the next one
    pub entries_lines : ℕ → Entries → List ℕ
    entries_lines column no_entries = codes "{}\n"
    entries_lines column (entry k v es) =
        scalar_text style k
        ++ (codes ":"
        ++ (before_value (column + 2) v
        ++ (block_text (column + 2) v ++ more_entries_lines column es)))

    -- those after the first, each on a line that begins with spaces
    pub more_entries_lines : ℕ → Entries → List ℕ
    more_entries_lines column no_entries = []
    more_entries_lines column (entry k v es) =
        indent column
        ++ (scalar_text style k
        ++ (codes ":"
        ++ (before_value (column + 2) v
        ++ (block_text (column + 2) v ++ more_entries_lines column es))))
