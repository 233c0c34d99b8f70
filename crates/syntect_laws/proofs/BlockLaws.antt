-- Values over lines are read back, an item or an entry at a time.
use Rattle.std.proofs.Common.{◌≡◌, ℕ, zero, suc, ◌+◌, ◌<◌, ◌≤◌, ◌==◌, Bool, true, false, ◌||◌, ◌&&◌, ◌⊎◌, List, [], ◌∷◌, ◌++◌, length, Some, None, refl, ap, ◌∙◌, arith, append_assoc, inl, inr}
use Rattle.std.proofs.lemmas.Bool.{cases_Bool, and_parts}
use Rattle.std.proofs.lemmas.Bool.Decides.{nat_tests}
use Rattle.syntect_yaml.specs.Node.{Node, scalar, list, map, no_items, item, no_entries, entry}
use Rattle.syntect_yaml.specs.declared.value.Scalar.{Scalar}
use Rattle.syntect_yaml.specs.Lines.{Rest, Cursor, first, is_space, next, line_tail}
use Rattle.std.specs.Prelude.{nat_lt, nat_le}
use Rattle.std.specs.List.{prefix_len}
use Rattle.syntect_yaml.specs.Scalars.{ends_key, ends_plain, after_colon, key}
use Rattle.syntect_yaml.specs.Blocks as blocks
use Rattle.syntect_yaml.specs.Blocks.{found_map, begins_item, has_item, has_value, has_entry, start, starts_item, starts_entry, starts_part, inline, block}
use Rattle.syntect_yaml.proofs.BlockLaws.{value_below, value_here, item_here, block_part, block_shallow}
use Rattle.syntect_laws.specs.Flow.{scalar_text, flow_text}
use Rattle.syntect_laws.specs.Literal.{indent, is_literal, ends_in_one_feed, ends_in_feed, indented_text, literal_text}
use Rattle.syntect_laws.specs.Block.{stands_literal, scalar_lines, is_short, before_value, block_text, more_items_lines, more_entries_lines}
use Rattle.syntect_laws.specs.YamlLaws.{ScalarFits, Fits, nesting}
use Rattle.syntect_laws.proofs.ScalarLaws.{begins_more, scalar_read}
use Rattle.syntect_laws.proofs.GapLaws.{opens_value, ends_gap, tail_spaced}
use Rattle.syntect_laws.proofs.PartLaws.{value_begins}
use Rattle.syntect_laws.proofs.LineLaws.{starts, inline_read}
use Rattle.syntect_laws.proofs.TextLaws.{Opens, opens_line, line_stands, spaces_len, behind_spaces, begins_opens, feed_ends, node_below}
use Rattle.syntect_laws.specs.YamlTexts.{Style, plain, single_quotes, double_quotes, literal}
use Rattle.syntect_laws.proofs.LiteralLaws.{Stops, literal_read}
use Rattle.syntect_yaml.specs.declared.value.Scalar.TheVariants.{Text, Number, Truth, Null}
use Rattle.syntect_yaml.specs.Literal.{belongs}
use Rattle.syntect_yaml.specs.Scalars as scalars
use Rattle.syntect_yaml.specs.Scalars.{begins_plain}
use Rattle.syntect_yaml.proofs.LiteralLaws.{lines_stop, lines_end}

-- a node begins on this line, left of the column
pub record IsLeft (column : ℕ) (t : Rest) : Type 0 where
  pub spaces : ℕ
  pub rest : Rest
  pub is : t ≡ indent spaces ++ rest
  pub fewer : spaces < column
  pub opens : Opens rest

-- what follows the lines of a value at a column: a line further left, or nothing
pub record Behind (column : ℕ) (t : Rest) (p : Cursor) : Type 0 where
  pub found : next t ≡ Some p
  pub outside : (p.column < column) ⊎ (p.rest ≡ [])
  pub line : (t ≡ []) ⊎ IsLeft column t

left_deeper : (column deeper : ℕ) (t : Rest) → column ≤ deeper → IsLeft column t → IsLeft deeper t
left_deeper column deeper t h l = record { spaces = l.spaces; rest = l.rest; is = l.is; fewer = omega (arith, l.fewer); opens = l.opens }

pub behind_deeper : (column deeper : ℕ) (t : Rest) (p : Cursor) → column ≤ deeper → Behind column t p → Behind deeper t p
behind_deeper column deeper t p h b = record {
  found = b.found;
  outside = elim b.outside [ inl less ↦ inl (omega arith) | inr none ↦ inr none ];
  line = elim b.line [ inl none ↦ inl none | inr left ↦ inr (left_deeper column deeper t h left) ];
}

-- no line of a text stands there
left_outside : (column n c : ℕ) (t : Rest) → n < column → opens_line c ≡ true → belongs column (indent n ++ (c ∷ t)) ≡ false
unfolding belongs
left_outside column n c t less h =
    let stand : ends_gap c ≡ true = line_stands c h in
    let dark : is_space c ≡ false = grind (arith, nat_tests) in
    let some : (length (c ∷ t) == 0) ≡ false = grind (arith, nat_tests) in
    let feed : (c == 10) ≡ false = grind (arith, nat_tests) in
    let return : (c == 13) ≡ false = grind (arith, nat_tests) in
    let short : nat_le column n ≡ false = grind (arith, nat_tests) in
    rw (spaces_len is_space n c t refl dark, behind_spaces n (c ∷ t), some, feed, return, short)

left_stops : (column : ℕ) (t : Rest) → IsLeft column t → Stops column t
left_stops column t l m room =
    let line : t ≡ indent l.spaces ++ (l.opens.byte ∷ l.opens.more) = l.is ∙ ap (λ (xs : Rest). indent l.spaces ++ xs) l.opens.is in
    let outside : belongs column t ≡ false = ap (belongs column) line ∙ left_outside column l.spaces l.opens.byte l.opens.more l.fewer l.opens.passes in
    lines_stop column m t room outside

behind_stops : (column : ℕ) (t : Rest) (p : Cursor) → Behind column t p → Stops column t
behind_stops column t p b = elim b.line [ inl none ↦ λ m room. lines_end column m t room (ap length none) | inr left ↦ left_stops column t left ]

never : (b : Bool) → (b && false) ≡ false
never true = refl
never false = refl

pub no_item_behind : (column : ℕ) (t : Rest) (p : Cursor) → Behind column t p → has_item column p ≡ false
unfolding begins_item
no_item_behind column t p b =
    elim b.outside [
      | inl less ↦ let other : (p.column == column) ≡ false = grind (arith, nat_tests) in rw other
      | inr none ↦ rw none (never (p.column == column))
    ]

pub no_entry_behind : (column : ℕ) (t : Rest) (p : Cursor) → Behind column t p → has_entry column p ≡ false
no_entry_behind column t p b =
    elim b.outside [
      | inl less ↦ let other : (p.column == column) ≡ false = grind (arith, nat_tests) in rw other
      | inr none ↦ rw none (never (p.column == column))
    ]

pub dash_opens : (t : Rest) → Opens (45 ∷ 32 ∷ t)
dash_opens t = record { byte = 45; more = 32 ∷ t; is = refl; passes = refl; bare = refl }

-- ---- items

-- after one space
behind_space : (t : Rest) → Opens t → (line_tail false (32 ∷ t) ≡ None) × (prefix_len is_space t ≡ 0)
behind_space t b =
    let stand : ends_gap b.byte ≡ true = line_stands b.byte b.passes in
    let dark : is_space b.byte ≡ false = grind (arith, nat_tests) in
    (rw b.is (tail_spaced b.byte b.more stand), rw (b.is, dark))

pub item_read : (depth column : ℕ) (v : Node) (t : Rest) (p : Cursor) → Opens t → block depth (column + 1) (record { column = column + 2; rest = t }) ≡ Some (v, p)
    → blocks.item (inline depth) (block depth) column (32 ∷ t) ≡ Some (v, p)
item_read depth column v t p b e =
    let space = behind_space t b in
    let two : column + 1 + 1 ≡ column + 2 = omega arith in
    item_here (inline depth) (block depth) column (32 ∷ t) space.0 ∙ rw (space.1, two) e

-- ---- values of entries

ends : (c : ℕ) (t : Rest) → (c == 32 || c == 10) ≡ true → ends_key false (c ∷ t) ≡ true
ends c t e = grind (arith, nat_tests)

next_below : (t : Rest) → line_tail false (10 ∷ t) ≡ Some t
unfolding line_tail
next_below t = let some : (length (10 ∷ t) == 0) ≡ false = grind (arith, nat_tests) in rw some

pub long_value : (depth column : ℕ) (v : Node) (t : Rest) (p : Cursor) → Opens t → block depth (column + 1) (record { column = column + 2; rest = t }) ≡ Some (v, p)
    → blocks.value (inline depth) (block depth) column (10 ∷ (indent (column + 2) ++ t)) ≡ Some (v, p)
long_value depth column v t p b e =
    let below : Rest = indent (column + 2) ++ t in
    let deeper : nat_lt column (column + 2) ≡ true = grind (arith, nat_tests) in
    value_below (inline depth) (block depth) column (10 ∷ below) below (record { column = column + 2; rest = t }) (next_below below) (node_below (column + 2) t b)
    ∙ rw deeper e

-- ---- literal scalars

bar : (column : ℕ) (s t : List ℕ) → (u : Rest) × (literal_text column s ++ t ≡ 124 ∷ u)
bar column s t =
    elim (cases_Bool (ends_in_one_feed s)) [
      | inl one ↦ rw one (10 ∷ (indented_text column true s ++ t), refl)
      | inr more ↦ elim (cases_Bool (ends_in_feed s)) [
        | inl feed ↦ rw (more, feed) (43 ∷ 10 ∷ (indented_text column true s ++ t), refl)
        | inr none ↦ rw (more, none) (45 ∷ 10 ∷ ((indented_text column true s ++ (10 ∷ [])) ++ t), refl)
      ]
    ]

bar_no_item : (t : Rest) → begins_item (124 ∷ t) ≡ false
unfolding begins_item
bar_no_item t = refl

bar_no_key : (t : Rest) → key false (124 ∷ t) ≡ None
unfolding key scalars.scalar scalars.plain begins_plain
bar_no_key t = let some : (length (124 ∷ t) == 0) ≡ false = grind (arith, nat_tests) in rw some

bar_starts : (t : Rest) → start (124 ∷ t) ≡ starts_part
bar_starts t = rw (bar_no_item t, bar_no_key t)

literal_starts : (column : ℕ) (s t : List ℕ) → start (literal_text column s ++ t) ≡ starts_part
literal_starts column s t = let b = bar column s t in ap start b.1 ∙ bar_starts b.0

literal_inline : (depth least column : ℕ) (s t : List ℕ) (p : Cursor) → is_literal s ≡ true → 0 < column → least ≤ column → Behind column t p
    → inline depth least (literal_text column s ++ t) ≡ Some (scalar (Text s), p)
unfolding inline
literal_inline depth least column s t p h some low b =
    let begins : (first (literal_text column s ++ t) == 124) ≡ true = ap (λ (xs : Rest). first xs == 124) (bar column s t).1 in
    rw (begins, literal_read column least s t h some low (behind_stops column t p b), b.found)

literal_holds : (column : ℕ) (way : Style) (s : List ℕ) → stands_literal column way s ≡ true → (0 < column) × (is_literal s ≡ true)
literal_holds column plain s e = let f : false ≡ true = e in cc
literal_holds column single_quotes s e = let f : false ≡ true = e in cc
literal_holds column double_quotes s e = let f : false ≡ true = e in cc
literal_holds column literal s e =
    let parts = and_parts (nat_lt 0 column) (is_literal s) e in
    let some : nat_lt 0 column ≡ true = parts.0 in
    (grind (arith, nat_tests), parts.1)

module _ (style : List ℕ → Style) where
  -- ---- values that begin after their keys

  -- what is found where such a value stands
  abbrev IsPart : ℕ → ℕ → Rest → Node → Cursor → Type 0
  IsPart depth least t v p = (start t ≡ starts_part) × (inline depth least t ≡ Some (v, p))

  flow_part : (v : Node) (depth least : ℕ) (t : Rest) (p : Cursor) → Fits v → nesting v ≤ depth → next t ≡ Some p → IsPart depth least ((flow_text style v ++ (10 ∷ [])) ++ t) v p
  flow_part v depth least t p fits deep e =
      rw (append_assoc (flow_text style v) (10 ∷ []) t) (starts style v (10 ∷ t) p fits (feed_ends t p e), inline_read style v depth least (10 ∷ t) p fits deep (feed_ends t p e))

  short_part : (v : Node) (depth least column : ℕ) (t : Rest) (p : Cursor) → is_short v ≡ true → Fits v → nesting v ≤ depth → least ≤ column → Behind column t p
      → IsPart depth least (block_text style column v ++ t) v p
  short_part (scalar (Text s)) depth least column t p h fits deep low b =
      elim (cases_Bool (stands_literal column (style s) s)) [
        | inl lines ↦
            let facts = literal_holds column (style s) s lines in
            rw lines (literal_starts column s t, literal_inline depth least column s t p facts.1 facts.0 low b)
        | inr line ↦ rw line (flow_part (scalar (Text s)) depth least t p fits deep b.found)
      ]
  short_part (scalar (Number z)) depth least column t p h fits deep low b = flow_part (scalar (Number z)) depth least t p fits deep b.found
  short_part (scalar (Truth c)) depth least column t p h fits deep low b = flow_part (scalar (Truth c)) depth least t p fits deep b.found
  short_part (scalar Null) depth least column t p h fits deep low b = flow_part (scalar Null) depth least t p fits deep b.found
  short_part (list no_items) depth least column t p h fits deep low b = flow_part (list no_items) depth least t p fits deep b.found
  short_part (list (item v vs)) depth least column t p h fits deep low b = let f : false ≡ true = h in cc
  short_part (map no_entries) depth least column t p h fits deep low b = flow_part (map no_entries) depth least t p fits deep b.found
  short_part (map (entry k v es)) depth least column t p h fits deep low b = let f : false ≡ true = h in cc

  part_found : (depth least column : ℕ) (t : Rest) (v : Node) (p : Cursor) → IsPart depth least t v p → block depth least (record { column = column; rest = t }) ≡ Some (v, p)
  part_found zero least column t v p h = block_shallow zero least (record { column = column; rest = t }) refl ∙ h.1
  part_found (suc depth) least column t v p h = block_part (suc depth) least (record { column = column; rest = t }) (omega arith) h.0 ∙ h.1

  pub short_read : (v : Node) (depth least column : ℕ) (t : Rest) (p : Cursor) → is_short v ≡ true → Fits v → nesting v ≤ depth → least ≤ column → Behind column t p
      → block depth least (record { column = column; rest = block_text style column v ++ t }) ≡ Some (v, p)
  short_read v depth least column t p h fits deep low b = part_found depth least column (block_text style column v ++ t) v p (short_part v depth least column t p h fits deep low b)

  -- ---- how values begin

  pub scalar_opens : (s : Scalar) (t : Rest) → ScalarFits s → Opens (scalar_text style s ++ t)
  scalar_opens s t fits = begins_opens (scalar_text style s ++ t) (begins_more opens_value (scalar_text style s) t (value_begins style (scalar s) fits))

  entry_opens : (k : Scalar) (t u : Rest) → ScalarFits k → Opens ((scalar_text style k ++ u) ++ t)
  entry_opens k t u fits = rw (append_assoc (scalar_text style k) u t) (scalar_opens k (u ++ t) fits)

  lines_open : (s : Scalar) (column : ℕ) (t : Rest) → ScalarFits s → Opens (scalar_lines style column s ++ t)
  lines_open (Text s) column t fits =
      elim (cases_Bool (stands_literal column (style s) s)) [
        | inl lines ↦ let b = bar column s t in rw lines (record { byte = 124; more = b.0; is = b.1; passes = refl; bare = refl })
        | inr line ↦ rw line (entry_opens (Text s) t (10 ∷ []) fits)
      ]
  lines_open (Number z) column t fits = entry_opens (Number z) t (10 ∷ []) fits
  lines_open (Truth c) column t fits = entry_opens (Truth c) t (10 ∷ []) fits
  lines_open Null column t fits = entry_opens Null t (10 ∷ []) fits

  pub block_opens : (v : Node) (column : ℕ) (t : Rest) → Fits v → Opens (block_text style column v ++ t)
  block_opens (scalar s) column t fits = lines_open s column t fits
  block_opens (list no_items) column t fits = record { byte = 91; more = 93 ∷ 10 ∷ t; is = refl; passes = refl; bare = refl }
  block_opens (list (item v vs)) column t fits = dash_opens ((block_text style (column + 2) v ++ more_items_lines style column vs) ++ t)
  block_opens (map no_entries) column t fits = record { byte = 123; more = 125 ∷ 10 ∷ t; is = refl; passes = refl; bare = refl }
  block_opens (map (entry k v es)) column t fits = entry_opens k t (58 ∷ (before_value (column + 2) v ++ (block_text style (column + 2) v ++ more_entries_lines style column es))) fits.0

  pub key_line : (k : Scalar) (c : ℕ) (t : Rest) → ScalarFits k → (c == 32 || c == 10) ≡ true → key false (scalar_text style k ++ (58 ∷ c ∷ t)) ≡ Some (k, c ∷ t)
  unfolding key ends_plain after_colon
  key_line k c t fits e =
      let some : (length (58 ∷ c ∷ t) == 0) ≡ false = grind (arith, nat_tests) in
      let stop : ends_plain false false (58 ∷ c ∷ t) ≡ true = rw (some, ends c t e) in
      let colon : after_colon false (58 ∷ c ∷ t) ≡ Some (c ∷ t) = rw (ends c t e) in
      rw (scalar_read style false k (58 ∷ c ∷ t) fits stop, colon)

  pub short_value : (depth column : ℕ) (v : Node) (t : Rest) (p : Cursor) → is_short v ≡ true → Fits v → nesting v ≤ depth → Behind (column + 2) t p
      → blocks.value (inline depth) (block depth) column (32 ∷ (block_text style (column + 2) v ++ t)) ≡ Some (v, p)
  short_value depth column v t p h fits deep b =
      let line : Rest = block_text style (column + 2) v ++ t in
      let space = behind_space line (block_opens v (column + 2) t fits) in
      value_here (inline depth) (block depth) column (32 ∷ line) space.0 ∙ rw space.1 (short_part v depth (column + 1) (column + 2) t p h fits deep (omega arith) b).1
