-- Maps of values beside the members that they stand for.
use Rattle.std.proofs.Common.{◌≡◌, ℕ, List, [], ◌∷◌, Option, Some, option_map, String, BTreeMap, Global, string_bytes, string_cmp, sym, refl, ap, ◌∙◌}
use Rattle.std.specs.BTreeMap.{insert_entry, is_at}
use Rattle.std.specs.Cmp.Lexicographic.{slice_cmp}
use Rattle.std.specs.List.{AllZip}
use Rattle.std.specs.Map.{lookup}
use Rattle.std.specs.Ordering.{nat_cmp}
use Rattle.std.specs.Prelude.{option_and_then}
use Rattle.serde_json.specs.Data.{Data, object, put}
use Rattle.serde_json.specs.Find.{get, as_object}
use Rattle.serde_json.specs.View.{view, members_view}
use Rattle.serde_json.specs.declared.value.Value.{Value, Object}
use Rattle.serde_json.proofs.Views.{members_view-insert_entry, view-lookup, view-Object}

pub inserted : (es : List (String Global × Value)) (k : String Global) (v : Value) → members_view (insert_entry string_cmp es k v) ≡ put (string_bytes k) (view v) (members_view es)
inserted es k v = members_view-insert_entry es k v

-- what is taken out of an object
pub taken : (name : List ℕ) (m : BTreeMap (String Global) Value) (r : Option Value) → r ≡ lookup (is_at (λ k. slice_cmp nat_cmp name (string_bytes k))) m.entries
    → option_map view r ≡ get name (view (Object m))
taken name m r e = ap (option_map view) e ∙ view-lookup name m.entries ∙ sym (ap (get name) (view-Object m))

-- the members of an object that is there
pub members_there : (name : List ℕ) (d : Data) (r : Option Value) (m : BTreeMap (String Global) Value) → option_map view r ≡ get name d → r ≡ Some (Object m)
    → Some (members_view m.entries) ≡ option_and_then as_object (get name d)
members_there name d r m e s = ap (option_and_then as_object) (sym (view-Object-some m) ∙ sym (ap (option_map view) s) ∙ e)
  where
    view-Object-some : (m : BTreeMap (String Global) Value) → option_map view (Some (Object m)) ≡ Some (object (members_view m.entries))
    view-Object-some m = ap Some (view-Object m)

-- copies of entries stand for the same members
pub same_members : (es fs : List (String Global × Value)) → AllZip (λ p q. (string_bytes q.0 ≡ string_bytes p.0) × (view q.1 ≡ view p.1)) es fs → members_view fs ≡ members_view es
same_members [] [] h = refl
same_members [] (f ∷ fs) h = absurd h
same_members (e ∷ es) [] h = absurd h
same_members (e ∷ es) (f ∷ fs) h = rw (h.0.0, h.0.1, same_members es fs h.1) refl
