-- Settings put together, one more at a time.
use Rattle.std.proofs.Common.{◌≡◌, ℕ, List, [], ◌∷◌, ◌++◌, map, Option, Some, None, option_map, String, Global, string_bytes, Bool, true, false, cond, Ordering, Less, Equal, Greater, sym, refl, ap, ◌∙◌}
use Rattle.std.specs.BTreeMap.{insert_entry, is_at}
use Rattle.std.specs.Cmp.Lexicographic.{slice_cmp}
use Rattle.std.specs.Map.{lookup, remove_entry}
use Rattle.std.specs.Ordering.{nat_cmp, match_ordering}
use Rattle.std.specs.Prelude.{option_and_then, unwrap_or}
use Rattle.std.proofs.lemmas.List.{append_assoc}
use Rattle.serde_json.specs.Data.{Data, Items, item, Members, put}
use Rattle.serde_json.specs.View.{view, members_view, items_view}
use Rattle.serde_json.specs.declared.value.Value.{Value}
use Rattle.syntect_metadata.specs.Merging as merging
use Rattle.syntect_metadata.specs.Merging.{with_variables, with_member, with_members, with_entry, with_entries, all_variables, variable_of, put_at, merged_at, nothing}
use Rattle.syntect_metadata.specs.Seen.{merged_view, table_seen, named}
use Rattle.syntect_metadata.specs.declared.merge.Merged.{Merged}
use Rattle.syntect_metadata.specs.declared.raw.RawMetadataEntry.{RawMetadataEntry}

pub variables_next : (vs : List (String Global × Value)) (v : String Global × Value) (m : Members) → with_variables (map named (vs ++ v ∷ [])) m ≡ put (string_bytes v.0) (view v.1) (with_variables (map named vs) m)
variables_next [] v m = refl
variables_next (x ∷ vs) v m = variables_next vs v (put (string_bytes x.0) (view x.1) m)

pub members_next : (es : List (String Global × Value)) (e : String Global × Value) (m : merging.Merged) → with_members (members_view (es ++ e ∷ [])) m ≡ with_member (string_bytes e.0) (view e.1) (with_members (members_view es) m)
members_next [] e m = refl
members_next (x ∷ es) e m = members_next es e (with_member (string_bytes x.0) (view x.1) m)

pub entries_next : (es : List RawMetadataEntry) (e : RawMetadataEntry) (t : List (List ℕ × merging.Merged)) → with_entries (es ++ e ∷ []) t ≡ with_entry e (with_entries es t)
entries_next [] e t = refl
entries_next (x ∷ es) e t = entries_next es e (with_entry x t)

-- ---- variables of a list ----

spoiled : (d : Data) (ds : Items) → variable_of d ≡ None → all_variables (item d ds) ≡ None
spoiled d ds e = ap (option_and_then (λ v. option_map (λ vs. v ∷ vs) (all_variables ds))) e

at_front : (v : List ℕ × Data) (done : List (List ℕ × Data)) (more : Option (List (List ℕ × Data))) → option_map (λ xs. done ++ xs) (option_map (λ vs. v ∷ vs) more) ≡ option_map (λ xs. (done ++ v ∷ []) ++ xs) more
at_front v done None = refl
at_front v done (Some vs) = ap Some (sym (append_assoc done (v ∷ []) vs))

-- one more variable of a list
pub one_more : (done : List (String Global × Value)) (one : String Global × Value) (x : Value) (xs : List Value) (all : Option (List (List ℕ × Data))) → Some (named one) ≡ variable_of (view x)
    → all ≡ option_map (λ more. map named done ++ more) (all_variables (items_view (x ∷ xs))) → all ≡ option_map (λ more. map named (done ++ one ∷ []) ++ more) (all_variables (items_view xs))
one_more done one x xs all v e =
    e ∙ ap (λ (o : Option (List ℕ × Data)). option_map (λ more. map named done ++ more) (option_and_then (λ w. option_map (λ vs. w ∷ vs) (all_variables (items_view xs))) o)) (sym v)
    ∙ at_front (named one) (map named done) (all_variables (items_view xs))
    ∙ ap (λ (front : List (List ℕ × Data)). option_map (λ more. front ++ more) (all_variables (items_view xs))) (sym (map_push done one))
  where
    map_push : (done : List (String Global × Value)) (one : String Global × Value) → map named (done ++ one ∷ []) ≡ map named done ++ named one ∷ []
    map_push [] one = refl
    map_push (y ∷ ys) one = ap (λ rest. named y ∷ rest) (map_push ys one)

-- a value that is no variable spoils its list
pub one_spoils : (done : List (String Global × Value)) (x : Value) (xs : List Value) (all : Option (List (List ℕ × Data))) → None ≡ variable_of (view x)
    → all ≡ option_map (λ more. map named done ++ more) (all_variables (items_view (x ∷ xs))) → None ≡ all
one_spoils done x xs all v e = sym (e ∙ ap (option_map (λ more. map named done ++ more)) (spoiled (view x) (items_view xs) (sym v)))

-- ---- tables ----

at_lookup : (b : Bool) (m : Merged) (rest : Option Merged) (other : Option merging.Merged) → other ≡ option_map merged_view rest → cond b (Some (merged_view m)) other ≡ option_map merged_view (cond b (Some m) rest)
at_lookup true m rest other e = refl
at_lookup false m rest other e = e

lookup_seen : (test : List ℕ → Bool) (es : List (List ℕ × Merged)) → lookup test (table_seen es) ≡ option_map merged_view (lookup test es)
lookup_seen test [] = refl
lookup_seen test (e ∷ es) = at_lookup (test e.0) e.1 (lookup test es) (lookup test (table_seen es)) (lookup_seen test es)

at_remove : (b : Bool) (e : List ℕ × Merged) (es rest : List (List ℕ × Merged)) (other : List (List ℕ × merging.Merged)) → other ≡ table_seen rest → cond b (table_seen es) ((e.0, merged_view e.1) ∷ other) ≡ table_seen (cond b es (e ∷ rest))
at_remove true e es rest other h = refl
at_remove false e es rest other h = ap (λ t. (e.0, merged_view e.1) ∷ t) h

remove_seen : (test : List ℕ → Bool) (es : List (List ℕ × Merged)) → remove_entry test (table_seen es) ≡ table_seen (remove_entry test es)
remove_seen test [] = refl
remove_seen test (e ∷ es) = at_remove (test e.0) e es (remove_entry test es) (remove_entry test (table_seen es)) (remove_seen test es)

at_insert : (o : Ordering) (k : List ℕ) (m : Merged) (e : List ℕ × Merged) (es rest : List (List ℕ × Merged)) (other : List (List ℕ × merging.Merged)) → other ≡ table_seen rest
    → match_ordering o ((k, merged_view m) ∷ (e.0, merged_view e.1) ∷ table_seen es) ((e.0, merged_view m) ∷ table_seen es) ((e.0, merged_view e.1) ∷ other) ≡ table_seen (match_ordering o ((k, m) ∷ e ∷ es) ((e.0, m) ∷ es) (e ∷ rest))
at_insert Less k m e es rest other h = refl
at_insert Equal k m e es rest other h = refl
at_insert Greater k m e es rest other h = ap (λ t. (e.0, merged_view e.1) ∷ t) h

insert_seen : (cmp : List ℕ → List ℕ → Ordering) (es : List (List ℕ × Merged)) (k : List ℕ) (m : Merged) → insert_entry cmp (table_seen es) k (merged_view m) ≡ table_seen (insert_entry cmp es k m)
insert_seen cmp [] k m = refl
insert_seen cmp (e ∷ es) k m = at_insert (cmp k e.0) k m e es (insert_entry cmp es k m) (insert_entry cmp (table_seen es) k (merged_view m)) (insert_seen cmp es k m)

-- what was taken out of a table, or nothing
pub taken_or_nothing : (text : List ℕ) (old : List (List ℕ × Merged)) (r : Option Merged) → r ≡ lookup (is_at (slice_cmp nat_cmp text)) old → unwrap_or (option_map merged_view r) nothing ≡ unwrap_or (merged_at text (table_seen old)) nothing
taken_or_nothing text old r e = ap (λ (o : Option merging.Merged). unwrap_or o nothing) (ap (option_map merged_view) e ∙ sym (lookup_seen (is_at (slice_cmp nat_cmp text)) old))

-- what is put into a table from which it was taken out
pub put_back : (text : List ℕ) (m : Merged) (old left new : List (List ℕ × Merged)) → left ≡ remove_entry (is_at (slice_cmp nat_cmp text)) old → new ≡ insert_entry (slice_cmp nat_cmp) left text m
    → table_seen new ≡ put_at text (merged_view m) (table_seen old)
put_back text m old left new r i =
    ap table_seen (i ∙ ap (λ (es : List (List ℕ × Merged)). insert_entry (slice_cmp nat_cmp) es text m) r)
    ∙ sym (insert_seen (slice_cmp nat_cmp) (remove_entry (is_at (slice_cmp nat_cmp text)) old) text m)
    ∙ ap (λ (es : List (List ℕ × merging.Merged)). insert_entry (slice_cmp nat_cmp) es text (merged_view m)) (sym (remove_seen (is_at (slice_cmp nat_cmp text)) old))
