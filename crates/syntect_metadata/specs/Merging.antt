-- How the settings of entries are put together.
use Rattle.std.specs.Prelude.{ℕ, List, [], ◌∷◌, codes, Bool, if◌then◌else◌, Option, Some, None, option_and_then, unwrap_or}
use Rattle.std.specs.Option.{option_map, option_map_or}
use Rattle.std.specs.BTreeMap.{insert_entry, is_at}
use Rattle.std.specs.Cmp.Lexicographic.{slice_cmp}
use Rattle.std.specs.List.{list_any}
use Rattle.std.specs.List.Sorted.{IsPermutation, IsSortedBy, IsStableBy}
use Rattle.std.specs.Map.{lookup, remove_entry}
use Rattle.std.specs.Ordering.{nat_cmp, is_lt}
use Rattle.std.specs.Path.{path_cmp}
use Rattle.std.specs.Str.{bytes_eq}
use Rattle.serde_json.specs.Data.{Data, object, Items, no_items, item, Members, no_members, member, put}
use Rattle.serde_json.specs.Find.{get, as_str, as_array}
use Rattle.serde_json.specs.View.{members_view}
use Rattle.syntect_metadata.specs.Items.{pattern_keys, parens_key, variables_key}
use Rattle.syntect_metadata.specs.declared.raw.RawMetadataEntry.{RawMetadataEntry}

-- ---- the order of entries ----

-- the path of one stands before that of another, component by component
abbrev pub is_before : RawMetadataEntry → RawMetadataEntry → Bool
is_before a b = is_lt (path_cmp a.path b.path)

-- the entries in the order of their paths, those of one path in the order in which they came
pub record IsByPath (entries ordered : List RawMetadataEntry) : Type 0 where
  pub same : IsPermutation entries ordered
  pub order : IsSortedBy is_before ordered
  pub stable : IsStableBy is_before entries ordered

-- ---- variables ----

-- a variable of a list: an object with a text as `name`, and a `value`
abbrev pub variable_of : Data → Option (List ℕ × Data)
variable_of d =
    option_and_then (λ name. option_map (λ value. (name, value)) (get (codes "value") d))
    (option_and_then as_str (get (codes "name") d))

-- the variables of a list, where each of its values is one
abbrev pub all_variables : Items → Option (List (List ℕ × Data))
all_variables no_items = Some []
all_variables (item d ds) =
    option_and_then (λ v. option_map (λ vs. v ∷ vs) (all_variables ds)) (variable_of d)

-- the variables that a value adds: none unless it is a list of variables
abbrev pub variables_of : Data → List (List ℕ × Data)
variables_of d = unwrap_or (option_and_then all_variables (as_array d)) []

-- variables put at their names, one after another
abbrev pub with_variables : List (List ℕ × Data) → Members → Members
with_variables [] vars = vars
with_variables (v ∷ vs) vars = with_variables vs (put v.0 v.1 vars)

-- ---- settings ----

-- what entries of one scope text say: their settings, and their variables, where one of them had
-- the key
pub record Merged : Type 0 where
  pub settings : Members
  pub variables : Option Members

-- before any entry: no settings, and no variables
abbrev pub nothing : Merged
nothing = record { settings = no_members; variables = None }

-- with one more member: a known key's value takes the place of the one that is there, and variables
-- are added
abbrev pub with_member : List ℕ → Data → Merged → Merged
with_member key d m =
    if bytes_eq key variables_key
    then record m {
      variables = Some
          (with_variables (variables_of d) (unwrap_or m.variables no_members));
    }
    else if list_any (bytes_eq key) (parens_key ∷ pattern_keys)
    then record m { settings = put key d m.settings } else m

-- with the members of an object, one after another
abbrev pub with_members : Members → Merged → Merged
with_members no_members m = m
with_members (member key d ms) m = with_members ms (with_member key d m)

-- the object of all: the variables stand in it as an object too
abbrev pub object_of : Merged → Data
object_of m =
    object (option_map_or (λ vars. put variables_key
    (object vars) m.settings) m.variables m.settings)

-- ---- entries ----

-- what a table has at a scope text
abbrev pub merged_at : List ℕ → List (List ℕ × Merged) → Option Merged
merged_at text table = lookup (is_at (slice_cmp nat_cmp text)) table

-- a table, in the byte order of scope texts, with this at one of them in place of what is there
abbrev pub put_at : List ℕ → Merged → List (List ℕ × Merged) → List (List ℕ × Merged)
put_at text m table =
    insert_entry (slice_cmp nat_cmp) (remove_entry (is_at (slice_cmp nat_cmp text)) table) text m

-- a table with settings, added to what stands at a scope text
abbrev pub with_settings : List ℕ → Members → List (List ℕ × Merged) → List (List ℕ × Merged)
with_settings text settings table =
    put_at text (with_members settings (unwrap_or (merged_at text table) nothing)) table

-- a table with an entry
abbrev pub with_entry : RawMetadataEntry → List (List ℕ × Merged) → List (List ℕ × Merged)
with_entry e table = with_settings e.scope (members_view e.settings.entries) table

-- a table with entries, one after another
abbrev pub with_entries : List RawMetadataEntry → List (List ℕ × Merged) → List (List ℕ × Merged)
with_entries [] table = table
with_entries (e ∷ es) table = with_entries es (with_entry e table)
