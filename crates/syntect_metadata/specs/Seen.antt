-- What the maps of values stand for.
use Rattle.std.specs.Prelude.{ℕ, List, map, String, string_bytes}
use Rattle.std.specs.Option.{option_map}
use Rattle.std.specs.declared.alloc.Global.{Global}
use Rattle.serde_json.specs.Data.{Data}
use Rattle.serde_json.specs.View.{view, members_view}
use Rattle.serde_json.specs.declared.value.Value.{Value}
use Rattle.syntect_metadata.specs.Merging as merging
use Rattle.syntect_metadata.specs.declared.merge.Merged.{Merged}

-- ---- For proofs and private functions alone ----

-- a value at its name
abbrev pub named : String Global × Value → List ℕ × Data
named v = (string_bytes v.0, view v.1)

-- what entries of one scope text say
abbrev pub merged_view : Merged → merging.Merged
merged_view m = record {
  settings = members_view m.settings.entries;
  variables = option_map (λ vars. members_view vars.entries) m.variables;
}

-- what is said at each scope text
abbrev pub table_seen : List (List ℕ × Merged) → List (List ℕ × merging.Merged)
table_seen table = map (λ p. (p.0, merged_view p.1)) table
