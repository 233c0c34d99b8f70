-- The value that a `Yaml` stands for.
use Rattle.std.specs.Prelude.{List, [], ◌∷◌, map}
use Rattle.syntect_yaml.specs.Node as node
use Rattle.syntect_yaml.specs.Node.{Node, Items, no_items, item, Entries, no_entries, entry}
use Rattle.syntect_yaml.specs.declared.value.Scalar.{Scalar}
use Rattle.syntect_yaml.specs.declared.value.Yaml.{Yaml, fold-Yaml}
use Rattle.syntect_yaml.specs.declared.value.Yaml.TheOpen.{Yaml-F}

-- a list as the values of a list
abbrev pub items_of : List Node → Items
items_of [] = no_items
items_of (v ∷ vs) = item v (items_of vs)

-- a list of pairs as the entries of a map
abbrev pub entries_of : List (Scalar × Node) → Entries
entries_of [] = no_entries
entries_of (e ∷ es) = entry e.0 e.1 (entries_of es)

-- one level, with each value inside already seen
abbrev pub view_step : Yaml-F Node → Node
view_step (Yaml-F.Scalar s) = node.scalar s
view_step (Yaml-F.List v) = node.list (items_of v.items)
view_step (Yaml-F.Map v) = node.map (entries_of v.items)

abbrev pub view : Yaml → Node
view = fold-Yaml Node view_step

abbrev pub entry_view : Scalar × Yaml → Scalar × Node
entry_view e = (e.0, view e.1)

-- the values of some `Yaml`s, and of some pairs
abbrev pub items_view : List Yaml → Items
items_view vs = items_of (map view vs)

abbrev pub entries_view : List (Scalar × Yaml) → Entries
entries_view es = entries_of (map entry_view es)
