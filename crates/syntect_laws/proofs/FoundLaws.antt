-- Values over lines fit where they are read.
use Rattle.std.proofs.Common.{◌≡◌, ℕ, zero, suc, ◌+◌, ◌≤◌, ◌==◌, Bool, true, false, List, length, drop, Some, Option, IfSome, inl, inr, arith}
use Rattle.std.specs.Prelude.{nat_lt}
use Rattle.std.specs.List.{prefix_len}
use Rattle.std.proofs.lemmas.Bool.{cases_Bool}
use Rattle.syntect_yaml.specs.Node.{Node, Items, no_items, push_item, Entries, no_entries, push_entry, has_key}
use Rattle.syntect_yaml.specs.declared.value.Scalar.{Scalar}
use Rattle.syntect_yaml.specs.Lines.{Rest, Cursor, ◌∈◌, first, is_space, after_run, line_tail, next, next_line}
use Rattle.syntect_yaml.specs.Scalars.{key}
use Rattle.syntect_yaml.specs.Literal.{literal}
use Rattle.syntect_yaml.specs.Blocks as blocks
use Rattle.syntect_yaml.specs.Blocks.{Found, node_on, begins_item, flow_or_scalar, inline, has_item, has_value, has_entry, below, Start, starts_item, starts_entry, starts_part, start, block}
use Rattle.syntect_yaml.specs.Yaml.{begin, deepest, answer, value_of, unmasked, yaml_of}
use Rattle.syntect_laws.specs.YamlTexts.{Style}
use Rattle.syntect_laws.specs.Flow.{flow_text}
use Rattle.syntect_laws.specs.Block.{block_text}
use Rattle.syntect_laws.proofs.TextLaws.{line_read}
use Rattle.syntect_laws.proofs.NestLaws.{lines_read}
use Rattle.syntect_laws.specs.YamlLaws.{ScalarFits, Fits, ItemsFit, EntriesFit, nesting, items_nesting, entries_nesting}
use Rattle.syntect_laws.proofs.FitLaws.{cases_Option, holds, LeafFits, key_fits, Within, ItemsWithin, EntriesWithin, item_pushed, items_nest, entry_pushed, entries_nest, leaf_fits, flow_fits}

part_fits : (depth : ℕ) (t : Rest) → IfSome (flow_or_scalar depth t) (Within depth)
unfolding flow_or_scalar
part_fits depth t = elim (cases_Bool (first t ∈ "[{")) [ inl e ↦ rw e (flow_fits depth t) | inr e ↦ rw e (leaf_fits depth false t) ]

inline_fits : (depth least : ℕ) (t : Rest) → IfSome (inline depth least t) (Within depth)
unfolding inline
inline_fits depth least t =
    elim (cases_Bool (first t ∈ "|")) [
      | inl e ↦ elim (cases_Option (literal least t)) [
        | inl f ↦ rw (e, f) tt
        | inr s ↦ elim (cases_Option (next s.0.1)) [ inl f ↦ rw (e, s.1, f) tt | inr p ↦ rw (e, s.1, p.1) (tt, omega arith) ]
      ]
      | inr e ↦ elim (cases_Option (flow_or_scalar depth t)) [
        | inl f ↦ rw (e, f) tt
        | inr v ↦ elim (cases_Option (next_line v.0.1)) [
          | inl f ↦ rw (e, v.1, f) tt
          | inr p ↦ rw (e, v.1, p.1) (holds (Within depth) (flow_or_scalar depth t) v.0 (part_fits depth t) v.1)
        ]
      ]
    ]

-- within a map or list
module _ (depth : ℕ) (line : ℕ → Rest → Found Node) (inner : ℕ → Cursor → Found Node)
    (lines : (least : ℕ) (t : Rest) → IfSome (line least t) (Within depth)) (inners : (least : ℕ) (p : Cursor) → IfSome (inner least p) (Within depth)) where
  below_fits : (deeper : Bool) (column : ℕ) (p : Cursor) → IfSome (below line inner deeper column p) (Within depth)
  below_fits true column p = inners (column + 1) p
  below_fits false column p = (tt, omega arith)

  value_fits : (column : ℕ) (t : Rest) → IfSome (blocks.value line inner column t) (Within depth)
  unfolding blocks.value
  value_fits column t =
      elim (cases_Option (line_tail false t)) [
        | inl e ↦ rw e (lines (column + 1) (after_run is_space t))
        | inr after ↦ elim (cases_Option (next after.0)) [ inl f ↦ rw (after.1, f) tt | inr p ↦ rw (after.1, p.1) (below_fits (has_value column p.0) column p.0) ]
      ]

  item_fits : (column : ℕ) (t : Rest) → IfSome (blocks.item line inner column t) (Within depth)
  unfolding blocks.item
  item_fits column t =
      elim (cases_Option (line_tail false t)) [
        | inl e ↦ rw e (inners (column + 1) (record { column = column + 1 + prefix_len is_space t; rest = drop (prefix_len is_space t) t }))
        | inr after ↦ elim (cases_Option (next after.0)) [ inl f ↦ rw (after.1, f) tt | inr p ↦ rw (after.1, p.1) (below_fits (nat_lt column p.0.column) column p.0) ]
      ]

  items_fit : (column n : ℕ) (found : Items) (t : Rest) → ItemsFit found → items_nesting found ≤ depth → IfSome (blocks.items line inner column n found t) (ItemsWithin depth)
  unfolding blocks.items
  items_fit column zero found t h k = tt
  items_fit column (suc n) found t h k =
      elim (cases_Option (blocks.item line inner column t)) [
        | inl e ↦ rw e tt
        | inr v ↦
            let fits : Within depth v.0 = holds (Within depth) (blocks.item line inner column t) v.0 (item_fits column t) v.1 in
            let nest : items_nesting (push_item found v.0.0) ≤ depth = omega (arith, items_nest found v.0.0, fits.1) in
            elim (cases_Bool (has_item column v.0.1)) [
              | inl f ↦ rw (v.1, f) (items_fit column n (push_item found v.0.0) (drop 1 v.0.1.rest) (item_pushed found v.0.0 h fits.0) nest)
              | inr f ↦ rw (v.1, f) (item_pushed found v.0.0 h fits.0, nest)
            ]
      ]

  entries_fit : (column n : ℕ) (found : Entries) (k : Scalar) (t : Rest) → EntriesFit found → entries_nesting found ≤ depth → ScalarFits k → IfSome (blocks.entries line inner column n found k t) (EntriesWithin depth)
  unfolding blocks.entries
  entries_fit column zero found k t h n key_fit = tt
  entries_fit column (suc m) found k t h n key_fit =
      elim (cases_Bool (has_key k found)) [
        | inl e ↦ rw e tt
        | inr e ↦ elim (cases_Option (blocks.value line inner column t)) [
          | inl f ↦ rw (e, f) tt
          | inr v ↦
              let fits : Within depth v.0 = holds (Within depth) (blocks.value line inner column t) v.0 (value_fits column t) v.1 in
              let nest : entries_nesting (push_entry found k v.0.0) ≤ depth = omega (arith, entries_nest found k v.0.0, fits.1) in
              let pushed : EntriesFit (push_entry found k v.0.0) = entry_pushed found k v.0.0 h key_fit e fits.0 in
              elim (cases_Bool (has_entry column v.0.1)) [
                | inl f ↦ elim (cases_Option (key false v.0.1.rest)) [
                  | inl g ↦ rw (e, v.1, f, g) tt
                  | inr l ↦ rw (e, v.1, f, l.1) (entries_fit column m (push_entry found k v.0.0) l.0.0 l.0.1 pushed nest (holds LeafFits (key false v.0.1.rest) l.0 (key_fits false v.0.1.rest) l.1))
                ]
                | inr f ↦ rw (e, v.1, f) (pushed, nest)
              ]
        ]
      ]

abbrev StartFits : Start → Type 0
StartFits starts_item = Unit {0}
StartFits (starts_entry k t) = ScalarFits k
StartFits starts_part = Unit {0}

start_fits : (t : Rest) → StartFits (start t)
start_fits t =
    elim (cases_Bool (begins_item t)) [
      | inl e ↦ rw e tt
      | inr e ↦ elim (cases_Option (key false t)) [ inl f ↦ rw (e, f) tt | inr k ↦ rw (e, k.1) (holds LeafFits (key false t) k.0 (key_fits false t) k.1) ]
    ]

node_fits : (depth least : ℕ) (p : Cursor) (s : Start) → StartFits s → ((least : ℕ) (p : Cursor) → IfSome (block depth least p) (Within depth))
    → IfSome (node_on (inline depth) (block depth) (inline (suc depth)) least p s) (Within (suc depth))
node_fits depth least p starts_item h each =
    elim (cases_Option (blocks.items (inline depth) (block depth) p.column (length p.rest) no_items (drop 1 p.rest))) [
      | inl e ↦ rw e tt
      | inr r ↦
          let fits : ItemsWithin depth r.0 = holds (ItemsWithin depth) _ r.0 (items_fit depth (inline depth) (block depth) (inline_fits depth) each p.column (length p.rest) no_items (drop 1 p.rest) tt (omega arith)) r.1 in
          rw r.1 (fits.0, omega (arith, fits.1))
    ]
node_fits depth least p (starts_entry k t) h each =
    elim (cases_Option (blocks.entries (inline depth) (block depth) p.column (length p.rest) no_entries k t)) [
      | inl e ↦ rw e tt
      | inr r ↦
          let fits : EntriesWithin depth r.0 = holds (EntriesWithin depth) _ r.0 (entries_fit depth (inline depth) (block depth) (inline_fits depth) each p.column (length p.rest) no_entries k t tt (omega arith) h) r.1 in
          rw r.1 (fits.0, omega (arith, fits.1))
    ]
node_fits depth least p starts_part h each = inline_fits (suc depth) least p.rest

block_fits : (depth least : ℕ) (p : Cursor) → IfSome (block depth least p) (Within depth)
unfolding block
block_fits zero least p = inline_fits zero least p.rest
block_fits (suc depth) least p = node_fits depth least p (start p.rest) (start_fits p.rest) (block_fits depth)

-- ---- whole texts

abbrev NodeFits : Option Node → Type 0
NodeFits m = IfSome m (λ v. Fits v × (nesting v ≤ deepest))

answer_fits : (p : Cursor) → IfSome (answer (length p.rest == 0) p) NodeFits
answer_fits p =
    elim (cases_Bool (length p.rest == 0)) [
      | inl e ↦ rw e tt
      | inr e ↦ elim (cases_Option (block deepest 0 p)) [
        | inl f ↦ rw (e, f) tt
        | inr v ↦ elim (cases_Bool (length v.0.1.rest == 0)) [
          | inl g ↦ rw (e, v.1, g) (holds (Within deepest) (block deepest 0 p) v.0 (block_fits deepest 0 p) v.1)
          | inr g ↦ rw (e, v.1, g) tt
        ]
      ]
    ]

value_of_fits : (t : Rest) → IfSome (value_of t) NodeFits
unfolding value_of
value_of_fits t = elim (cases_Option (begin (suc (length t)) false t)) [ inl e ↦ rw e tt | inr p ↦ rw p.1 (answer_fits p.0) ]

pub read_fits : (t : List ℕ) (v : Node) → yaml_of t ≡ Some (Some v) → Fits v × (nesting v ≤ deepest)
read_fits t v e = holds NodeFits (value_of (unmasked t)) (Some v) (value_of_fits (unmasked t)) e

pub read_again : (style : List ℕ → Style) (t : List ℕ) (v : Node) → yaml_of t ≡ Some (Some v)
    → (yaml_of (flow_text style v) ≡ Some (Some v)) × (yaml_of (block_text style 0 v) ≡ Some (Some v))
read_again style t v e = let fits = read_fits t v e in (line_read style v fits.0 fits.1, lines_read style v fits.0 fits.1)
