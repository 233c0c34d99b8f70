-- A value on one line: scalars, lists in brackets and maps in braces.
use Rattle.std.specs.Prelude.{if◌then◌else◌, ℕ, List, [], ◌++◌, codes}
use Rattle.std.specs.Fmt.{signed_decimal}
use Rattle.syntect_yaml.specs.Node.{Node, scalar, list, map}
use Rattle.syntect_yaml.specs.Node.{Items, no_items, item, Entries, no_entries, entry}
use Rattle.syntect_yaml.specs.declared.value.Scalar.{Scalar}
use Rattle.syntect_yaml.specs.declared.value.Scalar.TheVariants.{Text, Number, Truth, Null}
use Rattle.syntect_laws.specs.YamlTexts.{Style, styled_text}

-- where each text has a style
module _ (style : List ℕ → Style) where
  -- a scalar: a text in its style, a number in decimal digits, or a word
  abbrev pub scalar_text : Scalar → List ℕ
  scalar_text (Text s) = styled_text (style s) s
  scalar_text (Number z) = signed_decimal z
  scalar_text (Truth b) = if b then codes "true" else codes "false"
  scalar_text Null = codes "null"

  abbrev mutual
    -- a value: a scalar, a list between brackets, or a map between braces
    pub flow_text : Node → List ℕ
    flow_text (scalar s) = scalar_text s
    flow_text (list vs) = codes "[" ++ (items_text vs ++ codes "]")
    flow_text (map es) = codes "{" ++ (entries_text es ++ codes "}")

    -- the values of a list, with a comma and a space between two
    pub items_text : Items → List ℕ
    items_text no_items = []
    items_text (item v vs) = flow_text v ++ more_items_text vs

    -- those after the first
    pub more_items_text : Items → List ℕ
    more_items_text no_items = []
    more_items_text (item v vs) = codes ", " ++ (flow_text v ++ more_items_text vs)

    -- the entries of a map, each a key, a colon, a space and a value, with a comma and a space
    -- between two
    pub entries_text : Entries → List ℕ
    entries_text no_entries = []
    entries_text (entry k v es) =
        scalar_text k ++ (codes ": " ++ (flow_text v ++ more_entries_text es))

    -- those after the first
    pub more_entries_text : Entries → List ℕ
    more_entries_text no_entries = []
    more_entries_text (entry k v es) =
        codes ", " ++ (scalar_text k ++ (codes ": " ++ (flow_text v ++ more_entries_text es)))
