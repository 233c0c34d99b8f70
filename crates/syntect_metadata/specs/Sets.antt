-- Sets of metadata: what the settings of a scope text give.
use Rattle.std.specs.Prelude.{◌≡◌, ◌≢◌, ℕ, List, [], ◌∷◌, length, take, map, if◌then◌else◌, Option, Some, None, Result, Ok, Err}
use Rattle.std.specs.BTreeMap.{insert_entry}
use Rattle.std.specs.Cmp.Lexicographic.{slice_cmp}
use Rattle.std.specs.Ordering.{nat_cmp}
use Rattle.serde_json.specs.Data.{Data}
use Rattle.syntect_metadata.specs.syntect_scope.Repository.{with_scopes, first_refusal}
use Rattle.syntect_metadata.specs.syntect_scope.SelectorText.{selectors_in, union_words}
use Rattle.syntect_metadata.specs.syntect_scope.declared.repository.ParseScopeError.{ParseScopeError}
use Rattle.syntect_metadata.specs.syntect_scope.declared.repository.ParseScopeError.TheVariants as scope
use Rattle.syntect_metadata.specs.Items.{next, has_known_key, items_of}
use Rattle.syntect_metadata.specs.Merging.{Merged, object_of, IsByPath, with_entries}
use Rattle.syntect_metadata.specs.declared.error.MetadataError.{MetadataError}
use Rattle.syntect_metadata.specs.declared.error.MetadataError.TheVariants.{Skipped, BadSelector, Memory}
use Rattle.syntect_metadata.specs.declared.items.MetadataItems.{MetadataItems}
use Rattle.syntect_metadata.specs.declared.raw.RawMetadataEntry.{RawMetadataEntry}
use Rattle.syntect_metadata.specs.declared.set.MetadataSet.{MetadataSet}

-- a set of items, for the selectors that a scope text names in a repository that
-- takes up their scopes
abbrev pub set_with : List (List ℕ) → List ℕ → MetadataItems → Result MetadataSet MetadataError
set_with repo text items = unless_refused (first_refusal repo (union_words text))
  where
    unless_refused : Option ParseScopeError → Result MetadataSet MetadataError
    unless_refused None = Ok (record {
      selector_string = text;
      selector = record { selectors = selectors_in (with_scopes repo (union_words text)) text };
      items = items;
    })
    unless_refused (Some e) = Err (BadSelector e)

-- The set of a scope text and an object: skipped where no known key is there, else refused for its
-- items, else for its selectors.
abbrev pub set_of : List (List ℕ) → List ℕ → Data → Result MetadataSet MetadataError
set_of repo text d = if has_known_key d then next (items_of d) (set_with repo text) else Err Skipped

-- lack of memory, or the refusal that the answer says
abbrev pub Refuses : {X : Type 0} → Result X MetadataError → MetadataError → Type 0
Refuses answer e = e ≢ Memory → answer ≡ Err e

-- ---- one after another ----

-- one more set, unless it is refused
abbrev pub with_set : Result MetadataSet MetadataError → List MetadataSet → List MetadataSet
with_set (Ok set) sets = set ∷ sets
with_set (Err e) sets = sets

-- A repository after a set was read with another one: it has the set's scopes, or, where the set
-- was refused, perhaps more.
abbrev pub IsAfterSet : List (List ℕ) → Result MetadataSet MetadataError → List ℕ → List (List ℕ)
    → Type 0
IsAfterSet old (Ok set) text new = new ≡ with_scopes old (union_words text)
IsAfterSet old (Err e) text new = take (length old) new ≡ old

-- The sets of scope texts with their settings, each read with the repository that the ones before
-- left; what is refused is left out.
abbrev pub ReadsSets : List (List ℕ) → List (List ℕ × Merged) → List (List ℕ) → List MetadataSet
    → Type 0
ReadsSets old [] new sets = (new ≡ old) × (sets ≡ [])
ReadsSets old (m ∷ ms) new sets =
    (left : List (List ℕ)) × IsAfterSet old (set_of old m.0 (object_of m.1)) m.0 left
    × (others : List MetadataSet) × ReadsSets left ms new others
    × (sets ≡ with_set (set_of old m.0 (object_of m.1)) others)

-- the sets of entries, read with a repository that becomes another one
abbrev pub IsOfEntries : List (List ℕ) → List RawMetadataEntry → List (List ℕ) → List MetadataSet
    → Type 0
IsOfEntries old entries new sets =
    (ordered : List RawMetadataEntry) × IsByPath entries ordered
    × ReadsSets old (with_entries ordered []) new sets

-- ---- old sets and new ones ----

-- a table with sets, each at its scope text, in place of the one that is there
abbrev pub with_sets : List MetadataSet → List (List ℕ × MetadataSet) → List (List ℕ × MetadataSet)
with_sets [] table = table
with_sets (set ∷ sets) table =
    with_sets sets (insert_entry (slice_cmp nat_cmp) table set.selector_string set)

-- old sets and new ones in the byte order of their scope texts, a new one in place of an old one of
-- the same text
abbrev pub merged_sets : List MetadataSet → List MetadataSet → List MetadataSet
merged_sets old new = map (λ entry. entry.1) (with_sets new (with_sets old []))

-- ---- For proofs and private functions alone ----

-- a refusal of scopes, passed on
abbrev pub scope_refusal : ParseScopeError → MetadataError
scope_refusal scope.Memory = Memory
scope_refusal scope.TooLong = BadSelector scope.TooLong
scope_refusal scope.TooManyAtoms = BadSelector scope.TooManyAtoms
