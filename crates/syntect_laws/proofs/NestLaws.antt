-- Values over lines are read back, however they nest.
use Rattle.std.proofs.Common.{◌≡◌, ℕ, zero, suc, ◌+◌, ◌-◌, ◌<◌, ◌≤◌, ◌==◌, true, false, List, [], ◌∷◌, ◌++◌, length, Some, refl, ap, subst, ◌∙◌, arith, append_assoc, append-nil, length-append, inl, inr}
use Rattle.std.proofs.lemmas.Bool.{cases_Bool}
use Rattle.std.proofs.lemmas.Bool.Decides.{nat_tests}
use Rattle.syntect_yaml.specs.Node.{Node, scalar, list, map, Items, no_items, item, push_item, Entries, no_entries, entry, push_entry, has_key}
use Rattle.syntect_yaml.specs.declared.value.Scalar.{Scalar}
use Rattle.syntect_yaml.specs.Lines.{Rest, Cursor, is_marker, unmarked, seek, next}
use Rattle.syntect_yaml.specs.Scalars.{key}
use Rattle.syntect_yaml.specs.Blocks as blocks
use Rattle.syntect_yaml.specs.Blocks.{found_map, begins_item, has_item, has_entry, start, starts_item, starts_entry, inline, block}
use Rattle.syntect_yaml.specs.Yaml.{deepest, yaml_of}
use Rattle.syntect_yaml.proofs.BlockLaws.{items_end, items_more, entries_end, entries_more, block_list, block_map}
use Rattle.syntect_laws.specs.Flow.{scalar_text}
use Rattle.syntect_laws.specs.Literal.{indent}
use Rattle.syntect_laws.specs.Block.{is_short, before_value, block_text, items_lines, more_items_lines, entries_lines, more_entries_lines}
use Rattle.syntect_laws.specs.YamlLaws.{ScalarFits, Fits, ItemsFit, EntriesFit, nesting, items_nesting, entries_nesting}
use Rattle.syntect_laws.proofs.ScalarLaws.{begins_more}
use Rattle.syntect_laws.proofs.GapLaws.{opens_value}
use Rattle.syntect_laws.proofs.ApartLaws.{Apart, apart_none, apart_more}
use Rattle.syntect_laws.proofs.PartLaws.{items_onto, items_onto_item, items_onto_none, entries_onto, entries_onto_entry, entries_onto_none, value_begins}
use Rattle.syntect_laws.proofs.LineLaws.{no_item}
use Rattle.syntect_laws.proofs.TextLaws.{Opens, some_text, value_found, node_below}
use Rattle.syntect_laws.proofs.BlockLaws.{Behind, behind_deeper, no_item_behind, no_entry_behind, short_read, scalar_opens, dash_opens, block_opens, item_read, key_line, short_value, long_value}
use Rattle.syntect_laws.specs.YamlTexts.{Style}

same : (n : ℕ) → (n == n) ≡ true
same n = grind (arith, nat_tests)

dash_begins : (t : Rest) → begins_item (45 ∷ 32 ∷ t) ≡ true
unfolding begins_item
dash_begins t = let some : (length (32 ∷ t) == 0) ≡ false = grind (arith, nat_tests) in rw some

item_stands : (column : ℕ) (t : Rest) → has_item column (record { column = column; rest = 45 ∷ 32 ∷ t }) ≡ true
item_stands column t = rw (same column, dash_begins t)

parts_joined : (a b c d e : List ℕ) → (a ++ (58 ∷ (b ++ (c ++ d)))) ++ e ≡ a ++ (58 ∷ (b ++ (c ++ (d ++ e))))
parts_joined a b c d e = simp append_assoc

text_behind : Behind 0 [] (record { column = 0; rest = [] })
unfolding seek next unmarked is_marker
text_behind = record { found = refl; outside = inr refl; line = inl refl }

module _ (style : List ℕ → Style) where
  -- ---- items

  -- the lines of further items before what follows, and the place of the first
  abbrev items_after : ℕ → Items → Rest → Rest
  items_after column vs t = more_items_lines style column vs ++ t

  abbrev item_rest : ℕ → Node → Rest → Rest
  item_rest column v t = 32 ∷ (block_text style (column + 2) v ++ t)

  abbrev items_place : ℕ → Items → Rest → Cursor → Cursor
  items_place column no_items t p = p
  items_place column (item v vs) t p = record { column = column; rest = 45 ∷ item_rest column v (items_after column vs t) }

  items_joined : (column : ℕ) (v : Node) (vs : Items) (t : Rest) → items_after column (item v vs) t ≡ indent column ++ (45 ∷ item_rest column v (items_after column vs t))
  items_joined column v vs t =
      append_assoc (indent column) (45 ∷ 32 ∷ (block_text style (column + 2) v ++ more_items_lines style column vs)) t
      ∙ ap (λ (xs : Rest). indent column ++ (45 ∷ 32 ∷ xs)) (append_assoc (block_text style (column + 2) v) (more_items_lines style column vs) t)

  items_behind : (column : ℕ) (vs : Items) (t : Rest) (p : Cursor) → Behind column t p → Behind (column + 2) (items_after column vs t) (items_place column vs t p)
  items_behind column no_items t p b = behind_deeper column (column + 2) t p (omega arith) b
  items_behind column (item v vs) t p b = record {
    found = rw (items_joined column v vs t) (node_below column (45 ∷ item_rest column v (items_after column vs t)) (dash_opens (block_text style (column + 2) v ++ items_after column vs t)));
    outside = inl (omega arith);
    line = inr (record { spaces = column; rest = 45 ∷ item_rest column v (items_after column vs t); is = items_joined column v vs t; fewer = omega arith; opens = dash_opens (block_text style (column + 2) v ++ items_after column vs t) });
  }

  items_room : (column n : ℕ) (v w : Node) (ws : Items) (t : Rest) → length (item_rest column v (items_after column (item w ws) t)) < n
      → length (item_rest column w (items_after column ws t)) < n - 1
  items_room column n v w ws t h =
      let joined = rw (items_joined column w ws t) at h in
      omega (arith, length-append (block_text style (column + 2) v) (indent column ++ (45 ∷ item_rest column w (items_after column ws t))), length-append (indent column) (45 ∷ item_rest column w (items_after column ws t)))

  list_lines : (depth least column : ℕ) (v : Node) (vs : Items) (t : Rest) (p : Cursor)
      → blocks.items (inline depth) (block depth) column (length (45 ∷ item_rest column v (items_after column vs t))) no_items (item_rest column v (items_after column vs t)) ≡ Some (items_onto (item v no_items) vs, p)
      → block (suc depth) least (record { column = column; rest = items_lines style column (item v vs) ++ t }) ≡ Some (list (item v vs), p)
  list_lines depth least column v vs t p e =
      let less : suc depth - 1 ≡ depth = omega arith in
      let begins : start (45 ∷ item_rest column v (items_after column vs t)) ≡ starts_item = rw (dash_begins (block_text style (column + 2) v ++ items_after column vs t)) in
      let place : Cursor = record { column = column; rest = 45 ∷ item_rest column v (items_after column vs t) } in
      rw (append_assoc (block_text style (column + 2) v) (more_items_lines style column vs) t)
      (block_list (suc depth) least place (omega arith) begins
      ∙ rw (less, e) (ap (λ (ws : Items). Some (list ws, p)) (items_onto_item v no_items vs ∙ ap (item v) (items_onto_none vs))))

  -- ---- entries

  abbrev entries_after : ℕ → Entries → Rest → Rest
  entries_after column es t = more_entries_lines style column es ++ t

  -- what comes after the colon of a key
  abbrev value_rest : ℕ → Node → Rest → Rest
  value_rest column v t = before_value (column + 2) v ++ (block_text style (column + 2) v ++ t)

  abbrev entry_line : ℕ → Scalar → Node → Rest → Rest
  entry_line column k v t = scalar_text style k ++ (58 ∷ value_rest column v t)

  abbrev entries_place : ℕ → Entries → Rest → Cursor → Cursor
  entries_place column no_entries t p = p
  entries_place column (entry k v es) t p = record { column = column; rest = entry_line column k v (entries_after column es t) }

  entries_joined : (column : ℕ) (k : Scalar) (v : Node) (es : Entries) (t : Rest) → entries_after column (entry k v es) t ≡ indent column ++ entry_line column k v (entries_after column es t)
  entries_joined column k v es t =
      append_assoc (indent column) (scalar_text style k ++ (58 ∷ value_rest column v (more_entries_lines style column es))) t
      ∙ ap (λ (xs : Rest). indent column ++ xs) (parts_joined (scalar_text style k) (before_value (column + 2) v) (block_text style (column + 2) v) (more_entries_lines style column es) t)

  entries_behind : (column : ℕ) (es : Entries) (t : Rest) (p : Cursor) → EntriesFit es → Behind column t p → Behind (column + 2) (entries_after column es t) (entries_place column es t p)
  entries_behind column no_entries t p fits b = behind_deeper column (column + 2) t p (omega arith) b
  entries_behind column (entry k v es) t p fits b = record {
    found = rw (entries_joined column k v es t) (node_below column (entry_line column k v (entries_after column es t)) (scalar_opens style k (58 ∷ value_rest column v (entries_after column es t)) fits.0));
    outside = inl (omega arith);
    line = inr (record { spaces = column; rest = entry_line column k v (entries_after column es t); is = entries_joined column k v es t; fewer = omega arith; opens = scalar_opens style k (58 ∷ value_rest column v (entries_after column es t)) fits.0 });
  }

  key_stands : (column : ℕ) (k : Scalar) (v : Node) (t : Rest) → ScalarFits k → key false (entry_line column k v t) ≡ Some (k, value_rest column v t)
  key_stands column k v t fits =
      elim (cases_Bool (is_short v)) [
        | inl short ↦ rw short (key_line style k 32 (block_text style (column + 2) v ++ t) fits refl)
        | inr long ↦ rw long (key_line style k 10 (indent (column + 2) ++ (block_text style (column + 2) v ++ t)) fits refl)
      ]

  entry_stands : (column : ℕ) (k : Scalar) (v : Node) (t : Rest) → ScalarFits k → has_entry column (record { column = column; rest = entry_line column k v t }) ≡ true
  entry_stands column k v t fits = rw (same column, some_text (entry_line column k v t) (scalar_opens style k (58 ∷ value_rest column v t) fits))

  value_stands : (depth column : ℕ) (v : Node) (t : Rest) (p : Cursor) → Fits v → nesting v ≤ depth → Behind (column + 2) t p
      → block depth (column + 1) (record { column = column + 2; rest = block_text style (column + 2) v ++ t }) ≡ Some (v, p)
      → blocks.value (inline depth) (block depth) column (value_rest column v t) ≡ Some (v, p)
  value_stands depth column v t p fits deep b e =
      elim (cases_Bool (is_short v)) [
        | inl short ↦ rw short (short_value style depth column v t p short fits deep b)
        | inr long ↦ rw long (long_value depth column v (block_text style (column + 2) v ++ t) p (block_opens style v (column + 2) t fits) e)
      ]

  entries_room : (column n : ℕ) (v : Node) (l : Scalar) (w : Node) (es : Entries) (t : Rest) → length (value_rest column v (entries_after column (entry l w es) t)) < n
      → (0 < n) × (length (value_rest column w (entries_after column es t)) < n - 1)
  entries_room column n v l w es t h =
      let joined = rw (entries_joined column l w es t) at h in
      let line : Rest = entry_line column l w (entries_after column es t) in (
        omega arith,
        omega (
          arith,
          length-append (before_value (column + 2) v) (block_text style (column + 2) v ++ (indent column ++ line)),
          length-append (block_text style (column + 2) v) (indent column ++ line),
          length-append (indent column) line,
          length-append (scalar_text style l) (58 ∷ value_rest column w (entries_after column es t)),
        ),
      )

  map_lines : (depth least column : ℕ) (k : Scalar) (v : Node) (es : Entries) (t : Rest) (p : Cursor) → ScalarFits k
      → blocks.entries (inline depth) (block depth) column (length (entry_line column k v (entries_after column es t))) no_entries k (value_rest column v (entries_after column es t)) ≡ Some (entries_onto (entry k v no_entries) es, p)
      → block (suc depth) least (record { column = column; rest = entries_lines style column (entry k v es) ++ t }) ≡ Some (map (entry k v es), p)
  map_lines depth least column k v es t p fits e =
      let less : suc depth - 1 ≡ depth = omega arith in
      let line : Rest = entry_line column k v (entries_after column es t) in
      let other : begins_item line ≡ false = no_item line (begins_more opens_value (scalar_text style k) (58 ∷ value_rest column v (entries_after column es t)) (value_begins style (scalar k) fits)) in
      let begins : start line ≡ starts_entry k (value_rest column v (entries_after column es t)) = rw (other, key_stands column k v (entries_after column es t) fits) in
      let place : Cursor = record { column = column; rest = line } in
      rw (parts_joined (scalar_text style k) (before_value (column + 2) v) (block_text style (column + 2) v) (more_entries_lines style column es) t)
      (block_map (suc depth) least place k (value_rest column v (entries_after column es t)) (omega arith) begins
      ∙ rw (less, e) (ap (λ (ws : Entries). Some (map ws, p)) (entries_onto_entry k v no_entries es ∙ ap (entry k v) (entries_onto_none es))))

  -- ---- values

  mutual
    block_read : (v : Node) (depth least column : ℕ) (t : Rest) (p : Cursor) → Fits v → nesting v ≤ depth → least ≤ column → Behind column t p → block depth least (record { column = column; rest = block_text style column v ++ t }) ≡ Some (v, p)
    block_read (scalar s) depth least column t p fits deep low b = short_read style (scalar s) depth least column t p refl fits deep low b
    block_read (list vs) zero least column t p fits deep low b = absurd (omega arith)
    block_read (list vs) (suc depth) least column t p fits deep low b = list_read vs depth least column t p fits (omega arith) low b
    block_read (map es) zero least column t p fits deep low b = absurd (omega arith)
    block_read (map es) (suc depth) least column t p fits deep low b = map_read es depth least column t p fits (omega arith) low b

    list_read : (vs : Items) (depth least column : ℕ) (t : Rest) (p : Cursor) → ItemsFit vs → items_nesting vs ≤ depth → least ≤ column → Behind column t p
        → block (suc depth) least (record { column = column; rest = items_lines style column vs ++ t }) ≡ Some (list vs, p)
    list_read no_items depth least column t p fits deep low b = short_read style (list no_items) (suc depth) least column t p refl fits (omega arith) low b
    list_read (item v vs) depth least column t p fits deep low b =
        let after : Rest = items_after column vs t in
        let first : blocks.item (inline depth) (block depth) column (item_rest column v after) ≡ Some (v, items_place column vs t p) =
        item_read depth column v (block_text style (column + 2) v ++ after) (items_place column vs t p) (block_opens style v (column + 2) after fits.0)
        (block_read v depth (column + 1) (column + 2) after (items_place column vs t p) fits.0 (omega arith) (omega arith) (items_behind column vs t p b))
        in
        list_lines depth least column v vs t p (more_items_read vs v depth column (length (45 ∷ item_rest column v after)) no_items t p fits.1 (omega arith) b first (omega arith))

    more_items_read : (vs : Items) (v : Node) (depth column n : ℕ) (found : Items) (t : Rest) (p : Cursor) → ItemsFit vs → items_nesting vs ≤ depth → Behind column t p
        → blocks.item (inline depth) (block depth) column (item_rest column v (items_after column vs t)) ≡ Some (v, items_place column vs t p)
        → length (item_rest column v (items_after column vs t)) < n
        → blocks.items (inline depth) (block depth) column n found (item_rest column v (items_after column vs t)) ≡ Some (items_onto (push_item found v) vs, p)
    more_items_read no_items v depth column n found t p fits deep b e room = items_end (inline depth) (block depth) column n found (item_rest column v t) v p (omega arith) e (no_item_behind column t p b)
    more_items_read (item w vs) v depth column n found t p fits deep b e room =
        let after : Rest = items_after column vs t in
        let next_one : blocks.item (inline depth) (block depth) column (item_rest column w after) ≡ Some (w, items_place column vs t p) =
        item_read depth column w (block_text style (column + 2) w ++ after) (items_place column vs t p) (block_opens style w (column + 2) after fits.0)
        (block_read w depth (column + 1) (column + 2) after (items_place column vs t p) fits.0 (omega arith) (omega arith) (items_behind column vs t p b))
        in
        items_more (inline depth) (block depth) column n found (item_rest column v (items_after column (item w vs) t)) v (items_place column (item w vs) t p) (omega arith) e (item_stands column (block_text style (column + 2) w ++ after))
        ∙ more_items_read vs w depth column (n - 1) (push_item found v) t p fits.1 (omega arith) b next_one (items_room column n v w vs t room)

    map_read : (es : Entries) (depth least column : ℕ) (t : Rest) (p : Cursor) → EntriesFit es → entries_nesting es ≤ depth → least ≤ column → Behind column t p
        → block (suc depth) least (record { column = column; rest = entries_lines style column es ++ t }) ≡ Some (map es, p)
    map_read no_entries depth least column t p fits deep low b = short_read style (map no_entries) (suc depth) least column t p refl fits (omega arith) low b
    map_read (entry k v es) depth least column t p fits deep low b =
        let after : Rest = entries_after column es t in
        let behind = entries_behind column es t p fits.3 b in
        let first : blocks.value (inline depth) (block depth) column (value_rest column v after) ≡ Some (v, entries_place column es t p) =
        value_stands depth column v after (entries_place column es t p) fits.2 (omega arith) behind
        (block_read v depth (column + 1) (column + 2) after (entries_place column es t p) fits.2 (omega arith) (omega arith) behind)
        in
        map_lines depth least column k v es t p fits.0
        (more_entries_read es k v depth column (length (entry_line column k v after)) no_entries t p fits.3 refl (apart_more no_entries k v es fits.1 (apart_none es)) (omega arith) b first
        (omega (arith, length-append (scalar_text style k) (58 ∷ value_rest column v after))))

    more_entries_read : (es : Entries) (k : Scalar) (v : Node) (depth column n : ℕ) (found : Entries) (t : Rest) (p : Cursor) → EntriesFit es → has_key k found ≡ false → Apart (push_entry found k v) es
        → entries_nesting es ≤ depth → Behind column t p
        → blocks.value (inline depth) (block depth) column (value_rest column v (entries_after column es t)) ≡ Some (v, entries_place column es t p)
        → length (value_rest column v (entries_after column es t)) < n
        → blocks.entries (inline depth) (block depth) column n found k (value_rest column v (entries_after column es t)) ≡ Some (entries_onto (push_entry found k v) es, p)
    more_entries_read no_entries k v depth column n found t p fits new apart deep b e room =
        entries_end (inline depth) (block depth) column n found k (value_rest column v t) v p (omega arith) new e (no_entry_behind column t p b)
    more_entries_read (entry l w es) k v depth column n found t p fits new apart deep b e room =
        let after : Rest = entries_after column es t in
        let behind = entries_behind column es t p fits.3 b in
        let left = entries_room column n v l w es t room in
        let next_one : blocks.value (inline depth) (block depth) column (value_rest column w after) ≡ Some (w, entries_place column es t p) =
        value_stands depth column w after (entries_place column es t p) fits.2 (omega arith) behind
        (block_read w depth (column + 1) (column + 2) after (entries_place column es t p) fits.2 (omega arith) (omega arith) behind)
        in
        entries_more (inline depth) (block depth) column n found k (value_rest column v (entries_after column (entry l w es) t)) v (entries_place column (entry l w es) t p) l (value_rest column w after)
        left.0 new e (entry_stands column l w after fits.0) (key_stands column l w after fits.0)
        ∙ more_entries_read es l w depth column (n - 1) (push_entry found k v) t p fits.3 apart.0 (apart_more (push_entry found k v) l w es fits.1 apart.1) (omega arith) b next_one left.1

  pub lines_read : (v : Node) → Fits v → nesting v ≤ deepest → yaml_of (block_text style 0 v) ≡ Some (Some v)
  lines_read v fits deep =
      let whole : block deepest 0 (record { column = 0; rest = block_text style 0 v ++ [] }) ≡ Some (v, record { column = 0; rest = [] }) = block_read v deepest 0 0 [] _ fits deep (omega arith) text_behind in
      value_found (block_text style 0 v) v (subst Opens (append-nil (block_text style 0 v)) (block_opens style v 0 [] fits)) (rw append-nil at whole)
