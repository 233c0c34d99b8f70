-- Block maps and lists, by the columns of their entries.
use Rattle.std.specs.Prelude.{ℕ, zero, suc, ◌+◌, Bool, true, false, not, ◌&&◌, ◌||◌, ◌==◌, nat_lt, if◌then◌else◌, length, drop, slice_index, Option, Some, None, option_map}
use Rattle.std.specs.List.{prefix_len}
use Rattle.syntect_yaml.specs.Node as node
use Rattle.syntect_yaml.specs.Node.{Node, Items, no_items, push_item, Entries, no_entries, push_entry, has_key}
use Rattle.syntect_yaml.specs.declared.value.Scalar.{Scalar}
use Rattle.syntect_yaml.specs.declared.value.Scalar.TheVariants.{Text, Null}
use Rattle.syntect_yaml.specs.Lines.{Rest, Read, ◌>>=◌, ◌∈◌, space, first, is_space, after_run, ends_line, line_tail, Cursor, next, next_line}
use Rattle.syntect_yaml.specs.Scalars.{scalar, key}
use Rattle.syntect_yaml.specs.Literal.{literal}
use Rattle.syntect_yaml.specs.Flow.{read_map, flow}

-- a value, and the next visible character in a line below it
abbrev pub Found : Type 0 → Type 0
Found A = Option (A × Cursor)

-- what was found, under f, and the place after it
abbrev pub found_map : {A B : Type 0} → (A → B) → Found A → Found B
found_map f r = option_map (λ p. (f p.0, p.1)) r

-- a value with the place after it, where there is such a place
abbrev pub at_place : {A : Type 0} → A → Option Cursor → Found A
at_place v place = option_map (λ p. (v, p)) place

-- a flow map or list, or a scalar on one line
unfoldable pub flow_or_scalar : ℕ → Rest → Read Node
flow_or_scalar depth t = if first t ∈ "[{" then flow depth t else read_map node.scalar (scalar false t)

-- a value that begins on this line and is no block map or list; the lines of a literal scalar reach
-- the least column
unfoldable pub inline : ℕ → ℕ → Rest → Found Node
inline depth least t =
    if first t ∈ "|" then literal least t >>= (λ s. at_place (node.scalar (Text s.0)) (next s.1))
    else flow_or_scalar depth t >>= (λ v. at_place v.0 (next_line v.1))

-- an item of a list: a `-` before a space or the line's end
unfoldable pub begins_item : Rest → Bool
begins_item t = first t ∈ "-" && (ends_line (drop 1 t) || slice_index t 1 == space)

-- the list at the column goes on
abbrev pub has_item : ℕ → Cursor → Bool
has_item column p = p.column == column && begins_item p.rest

-- a value of an entry at the column stands here: deeper, or a list at the column itself
abbrev pub has_value : ℕ → Cursor → Bool
has_value column p = nat_lt column p.column || has_item column p

-- the map at the column goes on
abbrev pub has_entry : ℕ → Cursor → Bool
has_entry column p = p.column == column && not (length p.rest == 0)

-- within a map or list: its values on one line, and its nodes
module _ (line : ℕ → Rest → Found Node) (inner : ℕ → Cursor → Found Node) where
  -- a deeper node, or nothing
  abbrev pub below : Bool → ℕ → Cursor → Found Node
  below true column p = inner (column + 1) p
  below false column p = Some (node.scalar Null, p)

  -- the value of an entry at the column: below this line, where nothing is left of it, else on it
  abbrev value_on : ℕ → Rest → Option Rest → Found Node
  value_on column t (Some after) = next after >>= (λ p. below (has_value column p) column p)
  value_on column t None = line (column + 1) (after_run is_space t)

  -- after the `:` of a key at the column: a value on the line; or below it a deeper node, or a list
  -- at the key's column, or nothing
  unfoldable pub value : ℕ → Rest → Found Node
  value column t = value_on column t (line_tail false t)

  -- an item of a list at the column: below this line, where nothing is left of it, else on it
  abbrev item_on : ℕ → Rest → Option Rest → Found Node
  item_on column t (Some after) = next after >>= (λ p. below (nat_lt column p.column) column p)
  item_on column t None =
      let n = prefix_len is_space t in
      inner (column + 1) (record { column = column + 1 + n; rest = drop n t })

  -- after the `-` of an item at the column: a node on the line, at its own column; or below it a
  -- deeper node, or nothing
  unfoldable pub item : ℕ → Rest → Found Node
  item column t = item_on column t (line_tail false t)

  -- the list found, or what `more` finds after the next `-`, where the flag says that it goes on
  abbrev items_on : (Items → Rest → Found Items) → Bool → Items → Cursor → Found Items
  items_on more true found p = more found (drop 1 p.rest)
  items_on more false found p = Some (found, p)

  -- the rest of a list at the column, of fewer than n items, after those found, from just after a
  -- `-` on
  unfoldable pub items : ℕ → ℕ → Items → Rest → Found Items
  items column zero found t = None
  items column (suc n) found t =
      item column t >>= (λ v. items_on (items column n) (has_item column v.1)
      (push_item found v.0) v.1)

  -- the map found, or what `more` finds after the next key, where the flag says that it goes on
  abbrev entries_on : (Entries → Scalar → Rest → Found Entries) → Bool → Entries → Cursor
      → Found Entries
  entries_on more true found p = key false p.rest >>= (λ k. more found k.0 k.1)
  entries_on more false found p = Some (found, p)

  -- the rest of a map at the column, of fewer than n entries, after those found, from just after
  -- the key and its `:` on; no key comes twice
  unfoldable pub entries : ℕ → ℕ → Entries → Scalar → Rest → Found Entries
  entries column zero found k t = None
  entries column (suc n) found k t =
      if has_key k found then None
      else value column t >>=
      (λ v. entries_on (entries column n) (has_entry column v.1) (push_entry found k v.0) v.1)

-- what begins here: an item of a list, a key with what follows its `:`, or neither
pub data Start : Type 0 where
  starts_item : Start
  starts_entry : Scalar → Rest → Start
  starts_part : Start

-- an item, where the flag says so, else an entry with the key that was read, else neither
abbrev pub start_on : Bool → Read Scalar → Start
start_on true k = starts_item
start_on false (Some k) = starts_entry k.0 k.1
start_on false None = starts_part

-- what the text begins with: an item of a list, an entry of a map, or neither
abbrev pub start : Rest → Start
start t = start_on (begins_item t) (key false t)

module _ (line : ℕ → Rest → Found Node) (inner : ℕ → Cursor → Found Node) where
  -- the node that starts so: a list or a map at the place's column, or what `here` finds there
  abbrev pub node_on : (ℕ → Rest → Found Node) → ℕ → Cursor → Start → Found Node
  node_on here least p starts_item =
      found_map node.list (items line inner p.column (length p.rest) no_items (drop 1 p.rest))
  node_on here least p (starts_entry k t) =
      found_map node.map (entries line inner p.column (length p.rest) no_entries k t)
  node_on here least p starts_part = here least p.rest

-- a node, where maps and lists nest no deeper than this
unfoldable pub block : ℕ → ℕ → Cursor → Found Node
block zero least p = inline zero least p.rest
block (suc depth) least p =
    node_on (inline depth) (block depth) (inline (suc depth)) least p (start p.rest)
