-- Values that the code builds, and what they are seen as.
use Rattle.std.proofs.Common.{◌≡◌, List, [], ◌∷◌, ◌++◌, Vec, Global, refl, ap, rules}
use Rattle.syntect_yaml.specs.Node as node
use Rattle.syntect_yaml.specs.Node.{item, entry, push_item, push_entry}
use Rattle.syntect_yaml.specs.View.{view, items_view, entries_view}
use Rattle.syntect_yaml.specs.declared.value.Scalar.{Scalar as Leaf}
use Rattle.syntect_yaml.specs.declared.value.Yaml.{Yaml, Scalar, List as ListCase, Map as MapCase, the_lemmas}

pub view-Scalar : (s : Leaf) → view (Scalar s) ≡ node.scalar s
view-Scalar s = search (rules, the_lemmas)

pub view-List : (v : Vec Yaml Global) → view (ListCase v) ≡ node.list (items_view v.items)
view-List v = search (rules, the_lemmas)

pub view-Map : (v : Vec (Leaf × Yaml) Global) → view (MapCase v) ≡ node.map (entries_view v.items)
view-Map v = search (rules, the_lemmas)

pub push_item_view : (vs : List Yaml) (v : Yaml) → items_view (vs ++ v ∷ []) ≡ push_item (items_view vs) (view v)
push_item_view [] v = refl
push_item_view (w ∷ vs) v = ap (item (view w)) (push_item_view vs v)

pub push_entry_view : (es : List (Leaf × Yaml)) (e : Leaf × Yaml) → entries_view (es ++ e ∷ []) ≡ push_entry (entries_view es) e.0 (view e.1)
push_entry_view [] e = refl
push_entry_view (d ∷ es) e = ap (entry d.0 (view d.1)) (push_entry_view es e)
