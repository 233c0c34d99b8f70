-- Block maps and lists, an entry at a time.
use Rattle.std.proofs.Common.{◌≡◌, ℕ, zero, suc, ◌+◌, ◌-◌, ◌<◌, Bool, true, false, length, drop, Some, None, refl, arith}
use Rattle.std.proofs.lemmas.Bool.Decides.{nat_tests}
use Rattle.syntect_yaml.specs.Node as node
use Rattle.syntect_yaml.specs.Node.{Node, Items, no_items, push_item, Entries, no_entries, push_entry, has_key}
use Rattle.syntect_yaml.specs.declared.value.Scalar.{Scalar}
use Rattle.syntect_yaml.specs.Lines.{Rest, Read, Cursor, first, line_tail, next, after_run, is_space}
use Rattle.syntect_yaml.specs.Scalars.{key}
use Rattle.std.specs.List.{prefix_len}
use Rattle.syntect_yaml.specs.Blocks.{Found, found_map, begins_item, start_on, has_item, has_value, has_entry, below, value, item, items, entries, start, starts_item, starts_entry, starts_part, inline, block}
use Rattle.std.specs.Prelude.{nat_lt}

-- an item begins with its `-`
pub item_dash : (t : Rest) → begins_item t ≡ true → first t ≡ 45
unfolding begins_item
item_dash t e = grind (arith, nat_tests)

module _ (line : ℕ → Rest → Found Node) (inner : ℕ → Cursor → Found Node) where
  pub value_below : (column : ℕ) (t after : Rest) (p : Cursor) → line_tail false t ≡ Some after → next after ≡ Some p
      → value line inner column t ≡ below line inner (has_value column p) column p
  unfolding value
  value_below column t after p e f = rw (e, f)

  pub value_lost : (column : ℕ) (t after : Rest) → line_tail false t ≡ Some after → next after ≡ None → value line inner column t ≡ None
  unfolding value
  value_lost column t after e f = rw (e, f)

  pub value_here : (column : ℕ) (t : Rest) → line_tail false t ≡ None → value line inner column t ≡ line (column + 1) (after_run is_space t)
  unfolding value
  value_here column t e = rw e

  pub item_below : (column : ℕ) (t after : Rest) (p : Cursor) → line_tail false t ≡ Some after → next after ≡ Some p
      → item line inner column t ≡ below line inner (nat_lt column p.column) column p
  unfolding item
  item_below column t after p e f = rw (e, f)

  pub item_lost : (column : ℕ) (t after : Rest) → line_tail false t ≡ Some after → next after ≡ None → item line inner column t ≡ None
  unfolding item
  item_lost column t after e f = rw (e, f)

  pub item_here : (column : ℕ) (t : Rest) → line_tail false t ≡ None
      → item line inner column t ≡ inner (column + 1) (record { column = column + 1 + prefix_len is_space t; rest = drop (prefix_len is_space t) t })
  unfolding item
  item_here column t e = rw e

  pub items_none : (column m : ℕ) (found : Items) (t : Rest) → 0 < m → item line inner column t ≡ None → items line inner column m found t ≡ None
  unfolding items
  items_none column zero found t room e = absurd (omega arith)
  items_none column (suc m) found t room e = rw e

  pub items_end : (column m : ℕ) (found : Items) (t : Rest) (v : Node) (p : Cursor) → 0 < m → item line inner column t ≡ Some (v, p) → has_item column p ≡ false
      → items line inner column m found t ≡ Some (push_item found v, p)
  unfolding items
  items_end column zero found t v p room e f = absurd (omega arith)
  items_end column (suc m) found t v p room e f = rw (e, f)

  pub items_more : (column m : ℕ) (found : Items) (t : Rest) (v : Node) (p : Cursor) → 0 < m → item line inner column t ≡ Some (v, p) → has_item column p ≡ true
      → items line inner column m found t ≡ items line inner column (m - 1) (push_item found v) (drop 1 p.rest)
  unfolding items
  items_more column zero found t v p room e f = absurd (omega arith)
  items_more column (suc m) found t v p room e f = let less : suc m - 1 ≡ m = omega arith in rw (e, f, less)

  pub entries_twice : (column m : ℕ) (found : Entries) (k : Scalar) (t : Rest) → 0 < m → has_key k found ≡ true → entries line inner column m found k t ≡ None
  unfolding entries
  entries_twice column zero found k t room e = absurd (omega arith)
  entries_twice column (suc m) found k t room e = rw e

  pub entries_none : (column m : ℕ) (found : Entries) (k : Scalar) (t : Rest) → 0 < m → has_key k found ≡ false → value line inner column t ≡ None → entries line inner column m found k t ≡ None
  unfolding entries
  entries_none column zero found k t room e f = absurd (omega arith)
  entries_none column (suc m) found k t room e f = rw (e, f)

  pub entries_end : (column m : ℕ) (found : Entries) (k : Scalar) (t : Rest) (v : Node) (p : Cursor) → 0 < m → has_key k found ≡ false → value line inner column t ≡ Some (v, p) → has_entry column p ≡ false
      → entries line inner column m found k t ≡ Some (push_entry found k v, p)
  unfolding entries
  entries_end column zero found k t v p room e f g = absurd (omega arith)
  entries_end column (suc m) found k t v p room e f g = rw (e, f, g)

  pub entries_no_key : (column m : ℕ) (found : Entries) (k : Scalar) (t : Rest) (v : Node) (p : Cursor) → 0 < m → has_key k found ≡ false → value line inner column t ≡ Some (v, p) → has_entry column p ≡ true
      → key false p.rest ≡ None → entries line inner column m found k t ≡ None
  unfolding entries
  entries_no_key column zero found k t v p room e f g h = absurd (omega arith)
  entries_no_key column (suc m) found k t v p room e f g h = rw (e, f, g, h)

  pub entries_more : (column m : ℕ) (found : Entries) (k : Scalar) (t : Rest) (v : Node) (p : Cursor) (l : Scalar) (u : Rest) → 0 < m → has_key k found ≡ false → value line inner column t ≡ Some (v, p) → has_entry column p ≡ true
      → key false p.rest ≡ Some (l, u) → entries line inner column m found k t ≡ entries line inner column (m - 1) (push_entry found k v) l u
  unfolding entries
  entries_more column zero found k t v p l u room e f g h = absurd (omega arith)
  entries_more column (suc m) found k t v p l u room e f g h = let less : suc m - 1 ≡ m = omega arith in rw (e, f, g, h, less)

pub block_shallow : (depth least : ℕ) (p : Cursor) → depth ≡ 0 → block depth least p ≡ inline 0 least p.rest
unfolding block
block_shallow zero least p e = refl
block_shallow (suc depth) least p e = absurd (omega arith)

pub block_list : (depth least : ℕ) (p : Cursor) → 0 < depth → start p.rest ≡ starts_item
    → block depth least p ≡ found_map node.list (items (inline (depth - 1)) (block (depth - 1)) p.column (length p.rest) no_items (drop 1 p.rest))
unfolding block
block_list zero least p some e = absurd (omega arith)
block_list (suc depth) least p some e = let less : suc depth - 1 ≡ depth = omega arith in rw (e, less)

pub block_map : (depth least : ℕ) (p : Cursor) (k : Scalar) (t : Rest) → 0 < depth → start p.rest ≡ starts_entry k t
    → block depth least p ≡ found_map node.map (entries (inline (depth - 1)) (block (depth - 1)) p.column (length p.rest) no_entries k t)
unfolding block
block_map zero least p k t some e = absurd (omega arith)
block_map (suc depth) least p k t some e = let less : suc depth - 1 ≡ depth = omega arith in rw (e, less)

pub block_part : (depth least : ℕ) (p : Cursor) → 0 < depth → start p.rest ≡ starts_part → block depth least p ≡ inline depth least p.rest
unfolding block
block_part zero least p some e = absurd (omega arith)
block_part (suc depth) least p some e = rw e

is_item : (b : Bool) (k : Read Scalar) → start_on b k ≡ starts_item → b ≡ true
is_item true k e = refl
is_item false (Some k) e = absurd (grind arith)
is_item false None e = absurd (grind arith)

pub start_dash : (t : Rest) → start t ≡ starts_item → first t ≡ 45
start_dash t e = item_dash t (is_item _ _ e)
