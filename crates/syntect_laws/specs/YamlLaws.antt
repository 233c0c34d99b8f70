-- Laws of the reader: what is read of the text of a value.
use Rattle.std.specs.Prelude.{◌≡◌, ℕ, suc, ◌≤◌, ◌⊎◌, max, false, FitsSigned, IsUtf8, List, Some}
use mir.Syntax.{w64}
use Rattle.syntect_yaml.specs.Node.{Node, scalar, list, map, Items, no_items, item, Entries, no_entries, entry, has_key}
use Rattle.syntect_yaml.specs.Yaml.{deepest, yaml_of}
use Rattle.syntect_yaml.specs.declared.value.Scalar.{Scalar}
use Rattle.syntect_yaml.specs.declared.value.Scalar.TheVariants.{Text, Number, Truth, Null}
use Rattle.syntect_laws.specs.Block.{block_text}
use Rattle.syntect_laws.specs.Flow.{flow_text}
use Rattle.syntect_laws.specs.YamlTexts.{Style}

-- a number fits 64 bits with a sign, as each that is read does: the digits of a larger one are a
-- text
abbrev pub ScalarFits : Scalar → Type 0
ScalarFits (Text s) = Unit {0}
ScalarFits (Number z) = FitsSigned w64 z
ScalarFits (Truth b) = Unit {0}
ScalarFits Null = Unit {0}

abbrev mutual
  -- each number in the value fits, and no map in it has a key twice, as in each that is read
  pub Fits : Node → Type 0
  Fits (scalar s) = ScalarFits s
  Fits (list vs) = ItemsFit vs
  Fits (map es) = EntriesFit es

  -- the same of the values of a list
  pub ItemsFit : Items → Type 0
  ItemsFit no_items = Unit {0}
  ItemsFit (item v vs) = Fits v × ItemsFit vs

  -- and of the entries of a map, whose keys also fit and come once each
  pub EntriesFit : Entries → Type 0
  EntriesFit no_entries = Unit {0}
  EntriesFit (entry k v es) = ScalarFits k × (has_key k es ≡ false) × Fits v × EntriesFit es

abbrev mutual
  -- how many lists and maps stand one in another
  pub nesting : Node → ℕ
  nesting (scalar s) = 0
  nesting (list vs) = suc (items_nesting vs)
  nesting (map es) = suc (entries_nesting es)

  -- the same of the values of a list, where most do
  pub items_nesting : Items → ℕ
  items_nesting no_items = 0
  items_nesting (item v vs) = max (nesting v) (items_nesting vs)

  -- and of the entries of a map
  pub entries_nesting : Entries → ℕ
  entries_nesting no_entries = 0
  entries_nesting (entry k v es) = max (nesting v) (entries_nesting es)

-- The text of a value on one line has that value, in whatever style each text stands in it. Lists
-- and maps nest no deeper than is read.
abbrev pub FlowIsRead : Type 0
FlowIsRead =
    (style : List ℕ → Style) (v : Node) → Fits v → nesting v ≤ deepest
    → yaml_of (flow_text style v) ≡ Some (Some v)

-- The same of a value over lines.
abbrev pub BlockIsRead : Type 0
BlockIsRead =
    (style : List ℕ → Style) (v : Node) → Fits v → nesting v ≤ deepest
    → yaml_of (block_text style 0 v) ≡ Some (Some v)

-- Each value that is read fits, and nests no deeper: so the texts above are the texts of all
-- values that are read.
abbrev pub ReadFits : Type 0
ReadFits = (t : List ℕ) (v : Node) → yaml_of t ≡ Some (Some v) → Fits v × (nesting v ≤ deepest)

-- What a text says, it says again when it is printed on one line, and over lines.
abbrev pub IsReadAgain : Type 0
IsReadAgain =
    (style : List ℕ → Style) (t : List ℕ) (v : Node) → yaml_of t ≡ Some (Some v)
    → (yaml_of (flow_text style v) ≡ Some (Some v))
    × (yaml_of (block_text style 0 v) ≡ Some (Some v))

-- the text is one that a printer writes of the value, which fits
pub record IsTextOf (t : List ℕ) (v : Node) : Type 0 where
  pub style : List ℕ → Style
  pub text : (t ≡ flow_text style v) ⊎ (t ≡ block_text style 0 v)
  pub fits : Fits v
  pub nested : nesting v ≤ deepest

-- a text is UTF-8, as that of each value in memory is
abbrev pub ScalarIsUtf8 : Scalar → Type 0
ScalarIsUtf8 (Text s) = IsUtf8 s
ScalarIsUtf8 (Number z) = Unit {0}
ScalarIsUtf8 (Truth b) = Unit {0}
ScalarIsUtf8 Null = Unit {0}

abbrev mutual
  -- each text in the value is UTF-8
  pub HasUtf8 : Node → Type 0
  HasUtf8 (scalar s) = ScalarIsUtf8 s
  HasUtf8 (list vs) = ItemsHaveUtf8 vs
  HasUtf8 (map es) = EntriesHaveUtf8 es

  -- the same of the values of a list
  pub ItemsHaveUtf8 : Items → Type 0
  ItemsHaveUtf8 no_items = Unit {0}
  ItemsHaveUtf8 (item v vs) = HasUtf8 v × ItemsHaveUtf8 vs

  -- and of the entries of a map
  pub EntriesHaveUtf8 : Entries → Type 0
  EntriesHaveUtf8 no_entries = Unit {0}
  EntriesHaveUtf8 (entry k v es) = ScalarIsUtf8 k × HasUtf8 v × EntriesHaveUtf8 es

-- What the printers write of such a value is UTF-8.
abbrev pub WritesUtf8 : Type 0
WritesUtf8 =
    (style : List ℕ → Style) (v : Node) → Fits v → HasUtf8 v
    → IsUtf8 (flow_text style v) × IsUtf8 (block_text style 0 v)
