-- Members whose values are texts.
use Rattle.std.proofs.Common.{◌≡◌, ℕ, List, [], ◌∷◌, ◌++◌, map, Option, Some, None, option_map, String, Global, string_bytes, string_cmp, nat_cmp, Less, Greater, refl, sym, ap, ◌∙◌}
use Rattle.std.proofs.lemmas.List.{append_assoc}
use Rattle.std.specs.BTreeMap.{insert_entry}
use Rattle.std.specs.Cmp.Lexicographic.{slice_cmp, nat_list_cmp_total}
use Rattle.std.specs.List.{AllByRecursion}
use Rattle.std.specs.List.Sorted.{IsStrictlySortedBy}
use Rattle.std.specs.Map.{keys_of}
use Rattle.std.specs.Ordering.{ordering_reverse}
use Rattle.std.specs.Option.{ok_or}
use Rattle.std.specs.Prelude.{option_and_then, Ok, Err}
use Rattle.serde_json.specs.Find.{as_str}
use Rattle.serde_json.specs.View.{view, members_view}
use Rattle.serde_json.specs.declared.value.Value.{Value}
use Rattle.syntect_metadata.specs.Items.{texts_in}
use Rattle.syntect_metadata.specs.declared.error.MetadataError.TheVariants.{BadItems}

-- the keys that are ahead, as texts
abbrev pub ahead : List (String Global × Value) → List (List ℕ)
ahead es = map (λ e. string_bytes e.0) es

-- texts stand in the order of their names, before those ahead
abbrev pub Rises : List (List ℕ × List ℕ) → List (String Global × Value) → Type 0
Rises texts es = IsStrictlySortedBy (slice_cmp nat_cmp) (keys_of texts ++ ahead es)

all_below : (k : String Global) (es : List (String Global × Value)) → AllByRecursion (λ y. string_cmp k y ≡ Less) (keys_of es) → AllByRecursion (λ y. slice_cmp nat_cmp (string_bytes k) y ≡ Less) (ahead es)
all_below k [] h = tt
all_below k (e ∷ es) h = (h.0, all_below k es h.1)

-- the keys of a map rise as texts
pub begins : (es : List (String Global × Value)) → IsStrictlySortedBy string_cmp (keys_of es) → Rises [] es
unfolding IsStrictlySortedBy
begins [] h = tt
begins (e ∷ es) h = (all_below e.0 es h.0, begins es h.1)

below_middle : (first k : List ℕ) (texts : List (List ℕ × List ℕ)) (more : List (List ℕ)) → AllByRecursion (λ y. slice_cmp nat_cmp first y ≡ Less) (keys_of texts ++ k ∷ more) → slice_cmp nat_cmp first k ≡ Less
below_middle first k [] more h = h.0
below_middle first k (t ∷ texts) more h = below_middle first k texts more h.1

-- a name above those before it goes last
put_last : (texts : List (List ℕ × List ℕ)) (k text : List ℕ) (more : List (List ℕ)) → IsStrictlySortedBy (slice_cmp nat_cmp) (keys_of texts ++ k ∷ more) → insert_entry (slice_cmp nat_cmp) texts k text ≡ texts ++ (k, text) ∷ []
unfolding IsStrictlySortedBy
put_last [] k text more h = refl
put_last (t ∷ texts) k text more h =
    let above : slice_cmp nat_cmp k t.0 ≡ Greater = nat_list_cmp_total.antisymm k t.0 ∙ ap ordering_reverse (below_middle t.0 k texts more h.0) in
    rw above (ap (λ rest. t ∷ rest) (put_last texts k text more h.1))

keys_push : (texts : List (List ℕ × List ℕ)) (k text : List ℕ) (more : List (List ℕ)) → keys_of (texts ++ (k, text) ∷ []) ++ more ≡ keys_of texts ++ k ∷ more
keys_push [] k text more = refl
keys_push (t ∷ texts) k text more = ap (λ rest. t.0 ∷ rest) (keys_push texts k text more)

front : (texts : List (List ℕ × List ℕ)) (t : List ℕ × List ℕ) (more : Option (List (List ℕ × List ℕ))) → option_map (λ xs. texts ++ xs) (option_map (λ others. t ∷ others) more) ≡ option_map (λ xs. (texts ++ t ∷ []) ++ xs) more
front texts t None = refl
front texts t (Some others) = ap Some (sym (append_assoc texts (t ∷ []) others))

-- what has been read, beside what is ahead
pub record HasRead (all es : List (String Global × Value)) (texts : List (List ℕ × List ℕ)) : Type 0 where
  pub rest : texts_in (members_view all) ≡ option_map (λ more. texts ++ more) (texts_in (members_view es))
  pub rises : Rises texts es

unchanged : (o : Option (List (List ℕ × List ℕ))) → o ≡ option_map (λ more. [] ++ more) o
unchanged None = refl
unchanged (Some texts) = refl

pub nothing_read : (es : List (String Global × Value)) → IsStrictlySortedBy string_cmp (keys_of es) → HasRead es es []
nothing_read es h = record { rest = unchanged (texts_in (members_view es)); rises = begins es h }

pub one_read : (all es : List (String Global × Value)) (e : String Global × Value) (texts new : List (List ℕ × List ℕ)) (name text : List ℕ) → Some text ≡ as_str (view e.1) → name ≡ string_bytes e.0
    → new ≡ insert_entry (slice_cmp nat_cmp) texts name text → HasRead all (e ∷ es) texts → HasRead all es new
one_read all es e texts new name text s n i h =
    let last : new ≡ texts ++ (string_bytes e.0, text) ∷ [] =
    i ∙ ap (λ (k : List ℕ). insert_entry (slice_cmp nat_cmp) texts k text) n ∙ put_last texts (string_bytes e.0) text (ahead es) h.rises in
    record {
      rest = h.rest ∙ ap (λ (o : Option (List ℕ)). option_map (λ more. texts ++ more) (option_and_then (λ t. option_map (λ others. (string_bytes e.0, t) ∷ others) (texts_in (members_view es))) o)) (sym s)
          ∙ front texts (string_bytes e.0, text) (texts_in (members_view es)) ∙ ap (λ (xs : List (List ℕ × List ℕ)). option_map (λ more. xs ++ more) (texts_in (members_view es))) (sym last);
      rises = subst_keys last;
    }
  where
    subst_keys : new ≡ texts ++ (string_bytes e.0, text) ∷ [] → Rises new es
    subst_keys l = rw (l, keys_push texts (string_bytes e.0) text (ahead es)) h.rises

-- a value that is no text
pub spoils : (all es : List (String Global × Value)) (e : String Global × Value) (texts : List (List ℕ × List ℕ)) → None ≡ as_str (view e.1) → HasRead all (e ∷ es) texts → ok_or (texts_in (members_view all)) BadItems ≡ Err BadItems
spoils all es e texts s h = ap (λ (o : Option (List (List ℕ × List ℕ))). ok_or o BadItems) (h.rest ∙ ap (λ (o : Option (List ℕ)). option_map (λ more. texts ++ more) (option_and_then (λ t. option_map (λ others. (string_bytes e.0, t) ∷ others) (texts_in (members_view es))) o)) (sym s))

pub all_texts : (all : List (String Global × Value)) (texts : List (List ℕ × List ℕ)) → HasRead all [] texts → ok_or (texts_in (members_view all)) BadItems ≡ Ok texts
all_texts all texts h = ap (λ (o : Option (List (List ℕ × List ℕ))). ok_or o BadItems) (h.rest ∙ ap Some (append-nil-of texts))
  where
    append-nil-of : (texts : List (List ℕ × List ℕ)) → texts ++ [] ≡ texts
    append-nil-of [] = refl
    append-nil-of (t ∷ ts) = ap (λ rest. t ∷ rest) (append-nil-of ts)
