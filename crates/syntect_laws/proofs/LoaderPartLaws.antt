-- What stands in a value nests one level less deep.
use Rattle.std.proofs.Common.{ℕ, suc, ◌≤◌, Bool, true, false, List, [], Option, Some, None, if◌then◌else◌, arith}
use Rattle.std.specs.Prelude.{unwrap_or, option_and_then, IfSome}
use Rattle.std.specs.List.{AllByRecursion}
use Rattle.syntect_yaml.specs.Node as node
use Rattle.syntect_yaml.specs.Node.{Node, Items, no_items, item, Entries, no_entries, entry, is_text, value_at, get}
use Rattle.syntect_yaml.specs.declared.value.Scalar.{Scalar}
use Rattle.syntect_laws.specs.syntect_grammar_loader.LoadingValues.{values, pairs, list_in, map_in, at}
use Rattle.syntect_laws.specs.YamlLaws.{nesting, items_nesting, entries_nesting}

-- a value nests no deeper than n
abbrev pub Within : ℕ → Node → Type 0
Within n v = nesting v ≤ n

abbrev pub AllWithin : ℕ → List Node → Type 0
AllWithin n vs = AllByRecursion (Within n) vs

-- what the entries hold nests no deeper
abbrev pub EntriesWithin : ℕ → List (Scalar × Node) → Type 0
EntriesWithin n es = AllByRecursion (λ e. nesting e.1 ≤ n) es

values_within : (vs : Items) (n : ℕ) → items_nesting vs ≤ n → AllWithin n (values vs)
values_within no_items n h = tt
values_within (item v vs) n h = (omega arith, values_within vs n (omega arith))

pairs_within : (es : Entries) (n : ℕ) → entries_nesting es ≤ n → EntriesWithin n (pairs es)
pairs_within no_entries n h = tt
pairs_within (entry k v es) n h = (omega arith, pairs_within es n (omega arith))

value_at_within : (t : List ℕ) (es : Entries) (n : ℕ) → entries_nesting es ≤ n → IfSome (value_at t es) (Within n)
value_at_within t no_entries n h = tt
value_at_within t (entry k v es) n h = go (is_text t k) (value_at_within t es n (omega arith))
  where
    go : (b : Bool) → IfSome (value_at t es) (Within n) → IfSome (if b then Some v else value_at t es) (Within n)
    go true later = omega arith
    go false later = later

pub get_within : (t : List ℕ) (v : Node) (n : ℕ) → nesting v ≤ suc n → IfSome (get t v) (Within n)
get_within t (node.scalar s) n h = tt
get_within t (node.list vs) n h = tt
get_within t (node.map es) n h = value_at_within t es n (omega arith)

pub list_within : (v : Node) (n : ℕ) → nesting v ≤ suc n → IfSome (list_in v) (AllWithin n)
list_within (node.scalar s) n h = tt
list_within (node.list vs) n h = values_within vs n (omega arith)
list_within (node.map es) n h = tt

pub map_within : (v : Node) (n : ℕ) → nesting v ≤ suc n → IfSome (map_in v) (EntriesWithin n)
map_within (node.scalar s) n h = tt
map_within (node.list vs) n h = tt
map_within (node.map es) n h = pairs_within es n (omega arith)

pub list_at_within : (t : List ℕ) (v : Node) (n : ℕ) → nesting v ≤ suc (suc n) → IfSome (at list_in t v) (AllWithin n)
list_at_within t v n h = go (get t v) (get_within t v (suc n) h)
  where
    go : (o : Option Node) → IfSome o (Within (suc n)) → IfSome (option_and_then list_in o) (AllWithin n)
    go None k = tt
    go (Some w) k = list_within w n k

pub unwrap_within : (n : ℕ) (o : Option (List Node)) → IfSome o (AllWithin n) → AllWithin n (unwrap_or o [])
unwrap_within n None h = tt
unwrap_within n (Some vs) h = h
