-- Values that are read fit: their numbers, their keys and how deep they nest.
use Rattle.std.proofs.Common.{◌≡◌, ℕ, zero, suc, ◌^◌, ◌≤◌, max, Bool, true, false, ◌||◌, ◌&&◌, cond, List, length, drop, Some, None, Option, IfSome, ℤ, ◌⊎◌, take, refl, ◌∙◌, inl, inr, arith, SFits, w64, option_map, bytes_eq, codes}
use Rattle.std.specs.Prelude.{nat_lt, nat_le, if◌then◌else◌}
use Rattle.std.specs.Str.Parse.{digits_value}
use Rattle.std.proofs.lemmas.Bool.{cases_Bool}
use Rattle.std.proofs.lemmas.Bool.Decides.{nat_tests}
use Rattle.syntect_yaml.specs.Node.{Node, scalar, Items, no_items, item, push_item, Entries, no_entries, entry, push_entry, same_scalar, has_key}
use Rattle.syntect_yaml.specs.declared.value.Scalar.{Scalar}
use Rattle.syntect_yaml.specs.declared.value.Scalar.TheVariants.{Text, Truth, Null}
use Rattle.syntect_yaml.specs.Lines.{Rest, Read, ◌>>=◌, ◌∈◌, first}
use Rattle.syntect_yaml.specs.Scalars as scalars
use Rattle.syntect_yaml.specs.Scalars.{is_whole, unsigned, fitting, number_of, number_or_text, kind, begins_plain, plain_len, plain, after_colon, key}
use Rattle.syntect_yaml.specs.Flow.{read_map, gap, after_part, items, entry_value, entries, flow}
use Rattle.syntect_yaml.proofs.KeyLaws.{has_key-push_entry}
use Rattle.syntect_laws.specs.YamlLaws.{ScalarFits, Fits, ItemsFit, EntriesFit, nesting, items_nesting, entries_nesting}
use Rattle.syntect_laws.proofs.ApartLaws.{turned}
use Rattle.syntect_laws.proofs.PlainLaws.{neither}

-- ---- steps

pub cases_Option : {A : Type 0} (o : Option A) → (o ≡ None) ⊎ ((a : A) × (o ≡ Some a))
cases_Option None = inl refl
cases_Option (Some a) = inr (a, refl)

pub holds : {A : Type 0} (P : A → Type 0) (o : Option A) (a : A) → IfSome o P → o ≡ Some a → P a
holds P o a h e = rw e at h

-- ---- scalars

fitting_fits : (negative : Bool) (n : ℕ) → IfSome (fitting negative n) (λ z. SFits w64 z)
fitting_fits true zero = record { sfits = omega arith }
fitting_fits true (suc n) =
    elim (cases_Bool (nat_le (suc n) (2 ^ 63))) [ inl e ↦ rw e (record { sfits = grind (arith, nat_tests) }) | inr e ↦ rw e tt ]
fitting_fits false n = elim (cases_Bool (nat_lt n (2 ^ 63))) [ inl e ↦ rw e (record { sfits = grind (arith, nat_tests) }) | inr e ↦ rw e tt ]

number_fits : (s : List ℕ) → IfSome (number_of s) (λ z. SFits w64 z)
unfolding number_of
number_fits s =
    elim (cases_Bool (is_whole (unsigned s))) [ inl e ↦ rw e (fitting_fits (first s ∈ "-") (digits_value 10 (unsigned s))) | inr e ↦ rw e tt ]

kind_of_fits : (s : List ℕ) (o : Option ℤ) → IfSome o (λ z. SFits w64 z) → ScalarFits (number_or_text s o)
kind_of_fits s None h = tt
kind_of_fits s (Some z) h = h

either_fits : (c : Bool) (a b : Scalar) → ScalarFits a → ScalarFits b → ScalarFits (cond c a b)
either_fits true a b h k = h
either_fits false a b h k = k

kind_fits : (s : List ℕ) → ScalarFits (kind s)
unfolding kind
kind_fits s =
    either_fits (bytes_eq s (codes "true")) (Truth true) _ tt
    (either_fits (bytes_eq s (codes "false")) (Truth false) _ tt (either_fits (bytes_eq s (codes "null") || bytes_eq s (codes "~")) Null _ tt (kind_of_fits s (number_of s) (number_fits s))))

abbrev pub LeafFits : Scalar × Rest → Type 0
LeafFits p = ScalarFits p.0

text_fits : (o : Read (List ℕ)) → IfSome (option_map (λ p. (Text p.0, p.1)) o) LeafFits
text_fits None = tt
text_fits (Some p) = tt

plain_fits : (flow : Bool) (t : Rest) → IfSome (plain flow t) LeafFits
unfolding plain
plain_fits flow t =
    elim (cases_Bool (begins_plain t && nat_lt 0 (plain_len flow false t))) [ inl e ↦ rw e (kind_fits (take (plain_len flow false t) t)) | inr e ↦ rw e tt ]

pub scalar_fits : (flow : Bool) (t : Rest) → IfSome (scalars.scalar flow t) LeafFits
unfolding scalars.scalar
scalar_fits flow t =
    elim (cases_Bool (first t ∈ "'")) [
      | inl e ↦ rw e (text_fits (scalars.single (length t) (drop 1 t)))
      | inr e ↦ elim (cases_Bool (first t ∈ "\"")) [ inl f ↦ rw (e, f) (text_fits (scalars.double (length t) (drop 1 t))) | inr f ↦ rw (e, f) (plain_fits flow t) ]
    ]

pub key_fits : (flow : Bool) (t : Rest) → IfSome (key flow t) LeafFits
unfolding key
key_fits flow t =
    elim (cases_Option (scalars.scalar flow t)) [
      | inl e ↦ rw e tt
      | inr s ↦ elim (cases_Option (after_colon flow s.0.1)) [ inl f ↦ rw (s.1, f) tt | inr u ↦ rw (s.1, u.1) (holds LeafFits (scalars.scalar flow t) s.0 (scalar_fits flow t) s.1) ]
    ]

-- ---- lists and maps that grow

abbrev pub Within : {A : Type 0} → ℕ → Node × A → Type 0
Within depth p = Fits p.0 × (nesting p.0 ≤ depth)

abbrev pub ItemsWithin : {A : Type 0} → ℕ → Items × A → Type 0
ItemsWithin depth p = ItemsFit p.0 × (items_nesting p.0 ≤ depth)

abbrev pub EntriesWithin : {A : Type 0} → ℕ → Entries × A → Type 0
EntriesWithin depth p = EntriesFit p.0 × (entries_nesting p.0 ≤ depth)

pub item_pushed : (vs : Items) (v : Node) → ItemsFit vs → Fits v → ItemsFit (push_item vs v)
item_pushed no_items v h k = (k, tt)
item_pushed (item w vs) v h k = (h.0, item_pushed vs v h.1 k)

pub items_nest : (vs : Items) (v : Node) → items_nesting (push_item vs v) ≡ max (items_nesting vs) (nesting v)
items_nest no_items v = omega arith
items_nest (item w vs) v = omega (arith, items_nest vs v)

no_key_pushed : (l k : Scalar) (es : Entries) (v : Node) → has_key l es ≡ false → same_scalar l k ≡ false → has_key l (push_entry es k v) ≡ false
no_key_pushed l k es v e f = has_key-push_entry l es k v ∙ rw (turned k l, f, e)

pub entry_pushed : (es : Entries) (k : Scalar) (v : Node) → EntriesFit es → ScalarFits k → has_key k es ≡ false → Fits v → EntriesFit (push_entry es k v)
entry_pushed no_entries k v h key_fits new fits = (key_fits, refl, fits, tt)
entry_pushed (entry l w es) k v h key_fits new fits =
    let parts = neither (same_scalar l k) (has_key k es) new in
    (h.0, no_key_pushed l k es v h.1 parts.0, h.2, entry_pushed es k v h.3 key_fits parts.1 fits)

pub entries_nest : (es : Entries) (k : Scalar) (v : Node) → entries_nesting (push_entry es k v) ≡ max (entries_nesting es) (nesting v)
entries_nest no_entries k v = omega arith
entries_nest (entry l w es) k v = omega (arith, entries_nest es k v)

-- ---- values on one line

module _ (depth : ℕ) (value : Rest → Read Node) (each : (t : Rest) → IfSome (value t) (Within depth)) where
  items_fit : (n : ℕ) (found : Items) (t : Rest) → ItemsFit found → items_nesting found ≤ depth → IfSome (items value n found t) (ItemsWithin depth)
  unfolding items
  items_fit zero found t h k = tt
  items_fit (suc n) found t h k =
      elim (cases_Option (gap t)) [
        | inl e ↦ rw e tt
        | inr u ↦ elim (cases_Bool (first u.0 ∈ "]")) [
          | inl f ↦ rw (u.1, f) (h, k)
          | inr f ↦ elim (cases_Option (value u.0)) [
            | inl g ↦ rw (u.1, f, g) tt
            | inr v ↦ elim (cases_Option (after_part 93 v.0.1)) [
              | inl g ↦ rw (u.1, f, v.1, g) tt
              | inr w ↦
                  let fits : Within depth v.0 = holds (Within depth) (value u.0) v.0 (each u.0) v.1 in
                  rw (u.1, f, v.1, w.1) (items_fit n (push_item found v.0.0) w.0 (item_pushed found v.0.0 h fits.0) (omega (arith, items_nest found v.0.0, fits.1)))
            ]
          ]
        ]
      ]

  entry_value_fits : (t : Rest) → IfSome (entry_value value t) (Within depth)
  unfolding entry_value
  entry_value_fits t = elim (cases_Option (gap t)) [ inl e ↦ rw e tt | inr u ↦ rw u.1 (each u.0) ]

  -- one entry, and what is read after it
  entry_fits : (more : Entries → Rest → Read Entries) (found : Entries) (u : Rest) → EntriesFit found → entries_nesting found ≤ depth
      → ((es : Entries) (t : Rest) → EntriesFit es → entries_nesting es ≤ depth → IfSome (more es t) (EntriesWithin depth))
      → IfSome (key true u >>= (λ k. if has_key k.0 found then None else entry_value value k.1 >>= (λ v. after_part 125 v.1 >>= more (push_entry found k.0 v.0)))) (EntriesWithin depth)
  entry_fits more found u h k rest =
      elim (cases_Option (key true u)) [
        | inl e ↦ rw e tt
        | inr l ↦ elim (cases_Bool (has_key l.0.0 found)) [
          | inl f ↦ rw (l.1, f) tt
          | inr f ↦ elim (cases_Option (entry_value value l.0.1)) [
            | inl g ↦ rw (l.1, f, g) tt
            | inr v ↦ elim (cases_Option (after_part 125 v.0.1)) [
              | inl g ↦ rw (l.1, f, v.1, g) tt
              | inr w ↦
                  let key_fit : ScalarFits l.0.0 = holds LeafFits (key true u) l.0 (key_fits true u) l.1 in
                  let fits : Within depth v.0 = holds (Within depth) (entry_value value l.0.1) v.0 (entry_value_fits l.0.1) v.1 in
                  rw (l.1, f, v.1, w.1)
                  (rest (push_entry found l.0.0 v.0.0) w.0 (entry_pushed found l.0.0 v.0.0 h key_fit f fits.0) (omega (arith, entries_nest found l.0.0 v.0.0, fits.1)))
            ]
          ]
        ]
      ]

  entries_fit : (n : ℕ) (found : Entries) (t : Rest) → EntriesFit found → entries_nesting found ≤ depth → IfSome (entries value n found t) (EntriesWithin depth)
  unfolding entries
  entries_fit zero found t h k = tt
  entries_fit (suc n) found t h k =
      elim (cases_Option (gap t)) [
        | inl e ↦ rw e tt
        | inr u ↦ elim (cases_Bool (first u.0 ∈ "}")) [ inl f ↦ rw (u.1, f) (h, k) | inr f ↦ rw (u.1, f) (entry_fits (entries value n) found u.0 h k (entries_fit n)) ]
      ]

pub leaf_fits : (depth : ℕ) (flow : Bool) (t : Rest) → IfSome (read_map scalar (scalars.scalar flow t)) (Within depth)
leaf_fits depth flow t =
    elim (cases_Option (scalars.scalar flow t)) [ inl e ↦ rw e tt | inr s ↦ rw s.1 (holds LeafFits (scalars.scalar flow t) s.0 (scalar_fits flow t) s.1, omega arith) ]

pub flow_fits : (depth : ℕ) (t : Rest) → IfSome (flow depth t) (Within depth)
unfolding flow
flow_fits zero t = leaf_fits zero true t
flow_fits (suc depth) t =
    elim (cases_Bool (first t ∈ "[")) [
      | inl e ↦ elim (cases_Option (items (flow depth) (length t) no_items (drop 1 t))) [
        | inl f ↦ rw (e, f) tt
        | inr r ↦
            let fits : ItemsWithin depth r.0 = holds (ItemsWithin depth) (items (flow depth) (length t) no_items (drop 1 t)) r.0 (items_fit depth (flow depth) (flow_fits depth) (length t) no_items (drop 1 t) tt (omega arith)) r.1 in
            rw (e, r.1) (fits.0, omega (arith, fits.1))
      ]
      | inr e ↦ elim (cases_Bool (first t ∈ "{")) [
        | inl f ↦ elim (cases_Option (entries (flow depth) (length t) no_entries (drop 1 t))) [
          | inl g ↦ rw (e, f, g) tt
          | inr r ↦
              let fits : EntriesWithin depth r.0 = holds (EntriesWithin depth) (entries (flow depth) (length t) no_entries (drop 1 t)) r.0 (entries_fit depth (flow depth) (flow_fits depth) (length t) no_entries (drop 1 t) tt (omega arith)) r.1 in
              rw (e, f, r.1) (fits.0, omega (arith, fits.1))
        ]
        | inr f ↦ rw (e, f) (leaf_fits (suc depth) true t)
      ]
    ]
