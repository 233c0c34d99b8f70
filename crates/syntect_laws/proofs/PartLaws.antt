-- Values on one line are read back, a part at a time.
use Rattle.std.proofs.Common.{◌≡◌, ℕ, zero, suc, ◌-◌, ◌<◌, ◌≤◌, ◌==◌, true, false, List, [], ◌∷◌, ◌++◌, length, Some, refl, ap, ◌∙◌, arith, append_assoc, length-append}
use Rattle.std.proofs.lemmas.Bool.Decides.{nat_tests}
use Rattle.syntect_yaml.specs.Node as node
use Rattle.syntect_yaml.specs.Node.{Node, scalar, list, map, Items, no_items, item, push_item, Entries, no_entries, entry, push_entry, has_key}
use Rattle.syntect_yaml.specs.declared.value.Scalar.{Scalar}
use Rattle.syntect_yaml.specs.Lines.{Rest, first}
use Rattle.syntect_yaml.specs.Scalars as scalars
use Rattle.syntect_yaml.specs.Scalars.{ends_plain, key}
use Rattle.syntect_yaml.specs.Flow.{read_map, gap, after_part, items, entry_value, entries, flow}
use Rattle.syntect_yaml.proofs.FlowLaws.{items_end, items_more, entries_end, entries_more}
use Rattle.syntect_laws.specs.Flow.{scalar_text, flow_text, items_text, more_items_text, entries_text, more_entries_text}
use Rattle.syntect_laws.specs.YamlLaws.{ScalarFits, Fits, ItemsFit, EntriesFit, nesting, items_nesting, entries_nesting}
use Rattle.syntect_laws.proofs.ScalarLaws.{opens_scalar, Begins, begins_more, scalar_begins, scalar_read}
use Rattle.syntect_laws.proofs.ApartLaws.{Apart, apart_none, apart_more}
use Rattle.syntect_laws.proofs.GapLaws.{opens_value, gap_here, gap_spaced, value_stands, value_opens, comma_passed, closing_stays, colon_passed}
use Rattle.syntect_laws.specs.YamlTexts.{Style}

-- ---- how values begin

scalar_opens : (c : ℕ) → opens_scalar c ≡ true → opens_value c ≡ true
scalar_opens c h = grind (arith, nat_tests)

scalar_begun : (t : List ℕ) → Begins opens_scalar t → Begins opens_value t
scalar_begun t b = record { byte = b.byte; more = b.more; is = b.is; passes = scalar_opens b.byte b.passes; signed = b.signed }

-- a value's text, here or after a space
begun_here : (t : Rest) → Begins opens_value t → gap t ≡ Some t
begun_here t b = rw b.is (gap_here b.byte b.more (value_stands b.byte b.passes))

begun_spaced : (t : Rest) → Begins opens_value t → gap (32 ∷ t) ≡ Some t
begun_spaced t b = rw b.is (gap_spaced b.byte b.more (value_stands b.byte b.passes))

no_bracket : (t : Rest) → Begins opens_value t → (first t == 93) ≡ false
no_bracket t b = rw b.is (value_opens b.byte b.passes).0

no_brace : (t : Rest) → Begins opens_value t → (first t == 125) ≡ false
no_brace t b = rw b.is (value_opens b.byte b.passes).1

-- ---- lists

-- the values found, and more
abbrev pub items_onto : Items → Items → Items
items_onto found no_items = found
items_onto found (item v vs) = items_onto (push_item found v) vs

pub items_onto_item : (v : Node) (found vs : Items) → items_onto (item v found) vs ≡ item v (items_onto found vs)
items_onto_item v found no_items = refl
items_onto_item v found (item w vs) = items_onto_item v (push_item found w) vs

pub items_onto_none : (vs : Items) → items_onto no_items vs ≡ vs
items_onto_none no_items = refl
items_onto_none (item v vs) = items_onto_item v no_items vs ∙ ap (item v) (items_onto_none vs)

no_items_read : (depth n : ℕ) (found : Items) (t : Rest) → 0 < n → items (flow depth) n found (93 ∷ t) ≡ Some (found, t)
no_items_read depth n found t room = items_end (flow depth) n found (93 ∷ t) (93 ∷ t) room (gap_here 93 t refl) refl

-- ---- scalars

leaf : (depth : ℕ) (t : Rest) → Begins opens_scalar t → flow depth t ≡ read_map node.scalar (scalars.scalar true t)
unfolding flow
leaf zero t b = refl
leaf (suc depth) t b =
    let word = b.passes in
    let bracket : (b.byte == 91) ≡ false = grind (arith, nat_tests) in
    let brace : (b.byte == 123) ≡ false = grind (arith, nat_tests) in
    rw (b.is, bracket, brace)

-- ---- maps

abbrev pub entries_onto : Entries → Entries → Entries
entries_onto found no_entries = found
entries_onto found (entry k v es) = entries_onto (push_entry found k v) es

pub entries_onto_entry : (k : Scalar) (v : Node) (found es : Entries) → entries_onto (entry k v found) es ≡ entry k v (entries_onto found es)
entries_onto_entry k v found no_entries = refl
entries_onto_entry k v found (entry l w es) = entries_onto_entry k v (push_entry found l w) es

pub entries_onto_none : (es : Entries) → entries_onto no_entries es ≡ es
entries_onto_none no_entries = refl
entries_onto_none (entry k v es) = entries_onto_entry k v no_entries es ∙ ap (entry k v) (entries_onto_none es)

-- a colon and a space end a plain key
colon_stops : (t : Rest) → ends_plain true false (58 ∷ 32 ∷ t) ≡ true
unfolding ends_plain
colon_stops t = grind (arith, nat_tests)

entry_value_read : (depth : ℕ) (v : Node) (t u : Rest) → Begins opens_value t → flow depth t ≡ Some (v, u) → entry_value (flow depth) (32 ∷ t) ≡ Some (v, u)
unfolding entry_value
entry_value_read depth v t u b e = rw (begun_spaced t b, e)

no_entries_read : (depth n : ℕ) (found : Entries) (t : Rest) → 0 < n → entries (flow depth) n found (125 ∷ t) ≡ Some (found, t)
no_entries_read depth n found t room = entries_end (flow depth) n found (125 ∷ t) (125 ∷ t) room (gap_here 125 t refl) refl

module _ (style : List ℕ → Style) where
  pub value_begins : (v : Node) → Fits v → Begins opens_value (flow_text style v)
  value_begins (scalar s) fits = scalar_begun (scalar_text style s) (scalar_begins style s fits)
  value_begins (list vs) fits = record { byte = 91; more = items_text style vs ++ (93 ∷ []); is = refl; passes = refl; signed = λ e. absurd (omega arith) }
  value_begins (map es) fits = record { byte = 123; more = entries_text style es ++ (125 ∷ []); is = refl; passes = refl; signed = λ e. absurd (omega arith) }

  -- what is left of a list after a value, and after its comma too
  abbrev items_left : Items → Rest → Rest
  items_left vs t = more_items_text style vs ++ (93 ∷ t)

  abbrev items_next : Items → Rest → Rest
  items_next no_items t = 93 ∷ t
  items_next (item v vs) t = 32 ∷ (flow_text style v ++ items_left vs t)

  items_passed : (vs : Items) (t : Rest) → after_part 93 (items_left vs t) ≡ Some (items_next vs t)
  items_passed no_items t = closing_stays 93 t refl refl
  items_passed (item v vs) t = rw (append_assoc (flow_text style v) (more_items_text style vs) (93 ∷ t)) (comma_passed 93 (32 ∷ (flow_text style v ++ items_left vs t)))

  items_shorter : (vs : Items) (t : Rest) → length (items_next vs t) ≤ length (items_left vs t)
  items_shorter no_items t = omega arith
  items_shorter (item v vs) t = rw (append_assoc (flow_text style v) (more_items_text style vs) (93 ∷ t)) (omega arith)

  -- a plain scalar ends where a value does
  items_stop : (vs : Items) (t : Rest) → ends_plain true false (items_left vs t) ≡ true
  unfolding ends_plain
  items_stop no_items t = let some : (length (93 ∷ t) == 0) ≡ false = grind (arith, nat_tests) in rw some
  items_stop (item v vs) t = let some : (length (44 ∷ 32 ∷ ((flow_text style v ++ more_items_text style vs) ++ (93 ∷ t))) == 0) ≡ false = grind (arith, nat_tests) in rw some

  item_left : (v : Node) (vs : Items) (n : ℕ) (t : Rest) → length (flow_text style v ++ items_left vs t) < n → (0 < n) × (length (items_next vs t) ≤ n - 1)
  item_left v vs n t h = (omega arith, omega (arith, length-append (flow_text style v) (items_left vs t), items_shorter vs t))

  list_read : (depth : ℕ) (vs : Items) (t : Rest)
      → items (flow depth) (length (91 ∷ (items_text style vs ++ (93 ∷ t)))) no_items (items_text style vs ++ (93 ∷ t)) ≡ Some (vs, t)
      → flow (suc depth) (flow_text style (list vs) ++ t) ≡ Some (list vs, t)
  unfolding flow
  list_read depth vs t e = rw (append_assoc (items_text style vs) (93 ∷ []) t, e)

  first_item_read : (depth n : ℕ) (v : Node) (vs : Items) (t : Rest) → Fits v → 0 < n
      → flow depth (flow_text style v ++ items_left vs t) ≡ Some (v, items_left vs t)
      → items (flow depth) (n - 1) (item v no_items) (items_next vs t) ≡ Some (items_onto (item v no_items) vs, t)
      → items (flow depth) n no_items (items_text style (item v vs) ++ (93 ∷ t)) ≡ Some (item v vs, t)
  first_item_read depth n v vs t fits room e f =
      let b = begins_more opens_value (flow_text style v) (items_left vs t) (value_begins v fits) in
      let u : Rest = flow_text style v ++ items_left vs t in
      rw (append_assoc (flow_text style v) (more_items_text style vs) (93 ∷ t))
      (items_more (flow depth) n no_items u u v (items_left vs t) (items_next vs t) room (begun_here u b) (no_bracket u b) e (items_passed vs t)
      ∙ f ∙ ap (λ (ws : Items). Some (ws, t)) (items_onto_item v no_items vs ∙ ap (item v) (items_onto_none vs)))

  next_item_read : (depth n : ℕ) (found : Items) (v : Node) (vs : Items) (t : Rest) → Fits v → 0 < n
      → flow depth (flow_text style v ++ items_left vs t) ≡ Some (v, items_left vs t)
      → items (flow depth) (n - 1) (push_item found v) (items_next vs t) ≡ Some (items_onto (push_item found v) vs, t)
      → items (flow depth) n found (items_next (item v vs) t) ≡ Some (items_onto found (item v vs), t)
  next_item_read depth n found v vs t fits room e f =
      let b = begins_more opens_value (flow_text style v) (items_left vs t) (value_begins v fits) in
      let u : Rest = flow_text style v ++ items_left vs t in
      items_more (flow depth) n found (32 ∷ u) u v (items_left vs t) (items_next vs t) room (begun_spaced u b) (no_bracket u b) e (items_passed vs t) ∙ f

  leaf_read : (depth : ℕ) (s : Scalar) (t : Rest) → ScalarFits s → ends_plain true false t ≡ true → flow depth (scalar_text style s ++ t) ≡ Some (scalar s, t)
  leaf_read depth s t fits e =
      leaf depth (scalar_text style s ++ t) (begins_more opens_scalar (scalar_text style s) t (scalar_begins style s fits))
      ∙ ap (read_map node.scalar) (scalar_read style true s t fits e)

  abbrev entries_left : Entries → Rest → Rest
  entries_left es t = more_entries_text style es ++ (125 ∷ t)

  abbrev entry_left : Scalar → Node → Entries → Rest → Rest
  entry_left k v es t = scalar_text style k ++ (58 ∷ 32 ∷ (flow_text style v ++ entries_left es t))

  abbrev entries_next : Entries → Rest → Rest
  entries_next no_entries t = 125 ∷ t
  entries_next (entry k v es) t = 32 ∷ entry_left k v es t

  -- an entry's text before more of it
  entry_joined : (k : Scalar) (v : Node) (more t : List ℕ) → (scalar_text style k ++ (58 ∷ 32 ∷ (flow_text style v ++ more))) ++ t ≡ scalar_text style k ++ (58 ∷ 32 ∷ (flow_text style v ++ (more ++ t)))
  entry_joined k v more t = append_assoc (scalar_text style k) (58 ∷ 32 ∷ (flow_text style v ++ more)) t ∙ ap (λ (xs : List ℕ). scalar_text style k ++ (58 ∷ 32 ∷ xs)) (append_assoc (flow_text style v) more t)

  entries_passed : (es : Entries) (t : Rest) → after_part 125 (entries_left es t) ≡ Some (entries_next es t)
  entries_passed no_entries t = closing_stays 125 t refl refl
  entries_passed (entry k v es) t = rw (entry_joined k v (more_entries_text style es) (125 ∷ t)) (comma_passed 125 (32 ∷ entry_left k v es t))

  entries_shorter : (es : Entries) (t : Rest) → length (entries_next es t) ≤ length (entries_left es t)
  entries_shorter no_entries t = omega arith
  entries_shorter (entry k v es) t = rw (entry_joined k v (more_entries_text style es) (125 ∷ t)) (omega arith)

  entries_stop : (es : Entries) (t : Rest) → ends_plain true false (entries_left es t) ≡ true
  unfolding ends_plain
  entries_stop no_entries t = let some : (length (125 ∷ t) == 0) ≡ false = grind (arith, nat_tests) in rw some
  entries_stop (entry k v es) t =
      let some : (length (44 ∷ 32 ∷ ((scalar_text style k ++ (58 ∷ 32 ∷ (flow_text style v ++ more_entries_text style es))) ++ (125 ∷ t))) == 0) ≡ false = grind (arith, nat_tests) in
      rw some

  entry_left_length : (k : Scalar) (v : Node) (es : Entries) (n : ℕ) (t : Rest) → length (entry_left k v es t) < n → (0 < n) × (length (entries_next es t) ≤ n - 1)
  entry_left_length k v es n t h =
      (omega arith, omega (arith, length-append (scalar_text style k) (58 ∷ 32 ∷ (flow_text style v ++ entries_left es t)), length-append (flow_text style v) (entries_left es t), entries_shorter es t))

  key_read : (k : Scalar) (t : Rest) → ScalarFits k → key true (scalar_text style k ++ (58 ∷ 32 ∷ t)) ≡ Some (k, 32 ∷ t)
  unfolding key
  key_read k t fits = rw (scalar_read style true k (58 ∷ 32 ∷ t) fits (colon_stops t), colon_passed true t)

  map_read : (depth : ℕ) (es : Entries) (t : Rest)
      → entries (flow depth) (length (123 ∷ (entries_text style es ++ (125 ∷ t)))) no_entries (entries_text style es ++ (125 ∷ t)) ≡ Some (es, t)
      → flow (suc depth) (flow_text style (map es) ++ t) ≡ Some (map es, t)
  unfolding flow
  map_read depth es t e = rw (append_assoc (entries_text style es) (125 ∷ []) t, e)

  entry_begins : (k : Scalar) (v : Node) (es : Entries) (t : Rest) → ScalarFits k → Begins opens_value (entry_left k v es t)
  entry_begins k v es t fits = scalar_begun _ (begins_more opens_scalar (scalar_text style k) (58 ∷ 32 ∷ (flow_text style v ++ entries_left es t)) (scalar_begins style k fits))

  -- an entry after what was found, after a gap
  entry_read : (depth n : ℕ) (found : Entries) (k : Scalar) (v : Node) (es : Entries) (s t : Rest) → ScalarFits k → Fits v → has_key k found ≡ false → 0 < n
      → gap s ≡ Some (entry_left k v es t) → flow depth (flow_text style v ++ entries_left es t) ≡ Some (v, entries_left es t)
      → entries (flow depth) n found s ≡ entries (flow depth) (n - 1) (push_entry found k v) (entries_next es t)
  entry_read depth n found k v es s t key_fits fits new room g e =
      let u : Rest = flow_text style v ++ entries_left es t in
      let b = begins_more opens_value (flow_text style v) (entries_left es t) (value_begins v fits) in
      entries_more (flow depth) n found s (entry_left k v es t) k (32 ∷ u) v (entries_left es t) (entries_next es t) room g (no_brace _ (entry_begins k v es t key_fits))
      (key_read k u key_fits) new (entry_value_read depth v u (entries_left es t) b e) (entries_passed es t)

  first_entry_read : (depth n : ℕ) (k : Scalar) (v : Node) (es : Entries) (t : Rest) → ScalarFits k → Fits v → 0 < n
      → flow depth (flow_text style v ++ entries_left es t) ≡ Some (v, entries_left es t)
      → entries (flow depth) (n - 1) (entry k v no_entries) (entries_next es t) ≡ Some (entries_onto (entry k v no_entries) es, t)
      → entries (flow depth) n no_entries (entries_text style (entry k v es) ++ (125 ∷ t)) ≡ Some (entry k v es, t)
  first_entry_read depth n k v es t key_fits fits room e f =
      rw (entry_joined k v (more_entries_text style es) (125 ∷ t))
      (entry_read depth n no_entries k v es (entry_left k v es t) t key_fits fits refl room (begun_here _ (entry_begins k v es t key_fits)) e
      ∙ f ∙ ap (λ (ws : Entries). Some (ws, t)) (entries_onto_entry k v no_entries es ∙ ap (entry k v) (entries_onto_none es)))

  -- ---- values

  mutual
    pub value_read : (v : Node) (depth : ℕ) (t : Rest) → Fits v → nesting v ≤ depth → ends_plain true false t ≡ true → flow depth (flow_text style v ++ t) ≡ Some (v, t)
    value_read (scalar s) depth t fits deep e = leaf_read depth s t fits e
    value_read (list vs) zero t fits deep e = absurd (omega arith)
    value_read (list vs) (suc depth) t fits deep e = list_read depth vs t (items_read vs depth (suc (length (items_text style vs ++ (93 ∷ t)))) t fits (omega arith) (omega arith))
    value_read (map es) zero t fits deep e = absurd (omega arith)
    value_read (map es) (suc depth) t fits deep e = map_read depth es t (entries_read es depth (suc (length (entries_text style es ++ (125 ∷ t)))) t fits (omega arith) (omega arith))

    items_read : (vs : Items) (depth n : ℕ) (t : Rest) → ItemsFit vs → items_nesting vs ≤ depth → length (items_text style vs ++ (93 ∷ t)) < n → items (flow depth) n no_items (items_text style vs ++ (93 ∷ t)) ≡ Some (vs, t)
    items_read no_items depth n t fits deep room = no_items_read depth n no_items t (omega arith)
    items_read (item v vs) depth n t fits deep room =
        let left : (0 < n) × (length (items_next vs t) ≤ n - 1) = item_left v vs n t (rw (append_assoc (flow_text style v) (more_items_text style vs) (93 ∷ t)) at room) in
        first_item_read depth n v vs t fits.0 left.0 (value_read v depth (items_left vs t) fits.0 (omega arith) (items_stop vs t))
        (next_items_read vs depth (n - 1) (item v no_items) t fits.1 (omega arith) left.1)

    next_items_read : (vs : Items) (depth n : ℕ) (found : Items) (t : Rest) → ItemsFit vs → items_nesting vs ≤ depth → length (items_next vs t) ≤ n → items (flow depth) n found (items_next vs t) ≡ Some (items_onto found vs, t)
    next_items_read no_items depth n found t fits deep room = no_items_read depth n found t (omega arith)
    next_items_read (item v vs) depth n found t fits deep room =
        let left : (0 < n) × (length (items_next vs t) ≤ n - 1) = item_left v vs n t (omega arith) in
        next_item_read depth n found v vs t fits.0 left.0 (value_read v depth (items_left vs t) fits.0 (omega arith) (items_stop vs t))
        (next_items_read vs depth (n - 1) (push_item found v) t fits.1 (omega arith) left.1)

    entries_read : (es : Entries) (depth n : ℕ) (t : Rest) → EntriesFit es → entries_nesting es ≤ depth → length (entries_text style es ++ (125 ∷ t)) < n → entries (flow depth) n no_entries (entries_text style es ++ (125 ∷ t)) ≡ Some (es, t)
    entries_read no_entries depth n t fits deep room = no_entries_read depth n no_entries t (omega arith)
    entries_read (entry k v es) depth n t fits deep room =
        let left : (0 < n) × (length (entries_next es t) ≤ n - 1) = entry_left_length k v es n t (rw (entry_joined k v (more_entries_text style es) (125 ∷ t)) at room) in
        first_entry_read depth n k v es t fits.0 fits.2 left.0 (value_read v depth (entries_left es t) fits.2 (omega arith) (entries_stop es t))
        (next_entries_read es depth (n - 1) (entry k v no_entries) t fits.3 (apart_more no_entries k v es fits.1 (apart_none es)) (omega arith) left.1)

    next_entries_read : (es : Entries) (depth n : ℕ) (found : Entries) (t : Rest) → EntriesFit es → Apart found es → entries_nesting es ≤ depth → length (entries_next es t) ≤ n → entries (flow depth) n found (entries_next es t) ≡ Some (entries_onto found es, t)
    next_entries_read no_entries depth n found t fits apart deep room = no_entries_read depth n found t (omega arith)
    next_entries_read (entry k v es) depth n found t fits apart deep room =
        let left : (0 < n) × (length (entries_next es t) ≤ n - 1) = entry_left_length k v es n t (omega arith) in
        entry_read depth n found k v es (entries_next (entry k v es) t) t fits.0 fits.2 apart.0 left.0 (begun_spaced _ (entry_begins k v es t fits.0))
        (value_read v depth (entries_left es t) fits.2 (omega arith) (entries_stop es t))
        ∙ next_entries_read es depth (n - 1) (push_entry found k v) t fits.3 (apart_more found k v es fits.1 apart.1) (omega arith) left.1
