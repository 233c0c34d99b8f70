-- What a table tells of patterns.
use Rattle.std.proofs.Common.{◌≡◌, ◌==◌, ◌&&◌, ◌<◌, ◌≤◌, ◌+◌, ◌*◌, ◌/◌, ◌%◌, ℕ, zero, suc, Bool, true, false, List, [], ◌∷◌, length, get_or, map, refl, sym, ap, subst, ◌∙◌, ◌⊎◌, arith, inl, inr, if◌then◌else◌}
use Rattle.std.specs.Int.{bit_at}
use Rattle.std.specs.Prelude.{◌||◌, not}
use Rattle.std.specs.Global.{Box, Vec}
use Rattle.std.specs.List.{list_any}
use Rattle.std.proofs.lemmas.Bool.{cases_lt, le-ltb, lt-ltb, ne_eqb, not-false, not-true}
use Rattle.std.proofs.lemmas.Bool.Decides.{eqb_tells}
use Rattle.std.proofs.lemmas.List.{get_or-map, length-map}
use Rattle.std.proofs.lemmas.Nat.Bits.{bit_at-suc, bit_at_lowest}
use Rattle.syntect_grammar_lists.specs.syntect_pattern_table.Starts.{is_in}
use Rattle.syntect_grammar_lists.specs.syntect_pattern_table.declared.starts.Places.{Places}
use Rattle.syntect_grammar_lists.specs.Packed.{IsPacked, unpacked}
use Rattle.syntect_grammar_lists.specs.Rows.{AreRowsOf, BeginIn, IsTabled, bit_of}
use Rattle.syntect_grammar_lists.specs.Sides.{first_row, places_on}
use Rattle.syntect_grammar_lists.specs.Slims.{origin_of, widened}
use Rattle.syntect_grammar_lists.specs.Told.{AreCoarser, HoldsMore, IsCoarser, KeepsAll, bits_where, entry_of, has_captures_in, is_told, places_where, flats_in, spot_of, spot_origin, told_at, told_by, told_from}
use Rattle.syntect_grammar_lists.specs.declared.flats.Flat.{Flat}
use Rattle.syntect_grammar_lists.specs.declared.forms.Form.{Form}
use Rattle.syntect_grammar_lists.specs.declared.forms.Table.{Table}
use Rattle.syntect_grammar_lists.specs.declared.sides.Side.{Side}
use Rattle.syntect_grammar_lists.specs.declared.slims.Slim.{Slim}
use Rattle.syntect_grammar_lists.specs.declared.spots.Spot.{Spot}
use Rattle.syntect_grammar_lists.proofs.RowLaws.{is_true, side_out}

-- ---- bits that are set where something holds ----

lowest : (b : Bool) (m : ℕ) → (bit_at ((if b then 1 else 0) + 2 * m) 0 == 1) ≡ b
lowest true m =
    let odd : (1 + 2 * m) % 2 ≡ 1 = omega arith in
    ap (λ n. n == 1) (bit_at_lowest (1 + 2 * m) ∙ odd)
lowest false m =
    let even : (0 + 2 * m) % 2 ≡ 0 = omega arith in
    ap (λ n. n == 1) (bit_at_lowest (0 + 2 * m) ∙ even)

higher : (b : Bool) (m x : ℕ) → bit_at ((if b then 1 else 0) + 2 * m) (suc x) ≡ bit_at m x
higher true m x =
    let half : (1 + 2 * m) / 2 ≡ m = omega arith in
    bit_at-suc (1 + 2 * m) x ∙ ap (λ n. bit_at n x) half
higher false m x =
    let half : (0 + 2 * m) / 2 ≡ m = omega arith in
    bit_at-suc (0 + 2 * m) x ∙ ap (λ n. bit_at n x) half

bits_where_at : (holds : ℕ → Bool) (count x : ℕ) → x < count → (bit_at (bits_where holds count) x == 1) ≡ holds x
unfolding bits_where
bits_where_at holds zero x l = absurd (omega (arith, l))
bits_where_at holds (suc count) zero l = lowest (holds 0) (bits_where (λ x. holds (suc x)) count)
bits_where_at holds (suc count) (suc x) l = ap (λ n. n == 1) (higher (holds 0) (bits_where (λ y. holds (suc y)) count) x) ∙ bits_where_at (λ y. holds (suc y)) count x (omega (arith, l))

in_where : (holds : ℕ → Bool) (x : ℕ) → x < 130 → is_in (places_where holds) x ≡ holds x
unfolding is_in
in_where holds x l = elim (cases_lt x 128) [
  | inl b ↦ ap (λ t. if t then bit_at (bits_where holds 128) x == 1 else (if x == 128 then holds 128 else holds 129)) (lt-ltb x 128 b) ∙ bits_where_at holds 128 x b
  | inr b ↦ ap (λ t. if t then bit_at (bits_where holds 128) x == 1 else (if x == 128 then holds 128 else holds 129)) (le-ltb x 128 b) ∙ last b
]
  where
    last : 128 ≤ x → (if x == 128 then holds 128 else holds 129) ≡ holds x
    last b = elim (eqb_tells x 128) [
      | inl t ↦ ap (λ q. if q then holds 128 else holds 129) t.0 ∙ ap holds (sym t.1)
      | inr f ↦
          (let end : 129 ≡ x = omega (arith, b, l, f.1) in
          ap (λ q. if q then holds 128 else holds 129) f.0 ∙ ap holds end)
    ]

-- after the end nothing else stands
behind_end : (p : Places) (x : ℕ) → 129 ≤ x → is_in p x ≡ is_in p 129
unfolding is_in
behind_end p x l =
    ap (λ t. if t then bit_at p.ascii x == 1 else (if x == 128 then p.wide else p.end)) (le-ltb x 128 (omega (arith, l)))
    ∙ ap (λ t. if t then p.wide else p.end) (ne_eqb x 128 (λ e. absurd (omega (arith, e, l))))

holds_more : (old new : Places) → ((x : ℕ) → x < 130 → is_in new x ≡ false → is_in old x ≡ false) → HoldsMore old new
holds_more old new h x e = elim (cases_lt x 130) [
  | inl l ↦ h x l e
  | inr l ↦ behind_end old x (omega (arith, l)) ∙ h 129 (omega arith) (sym (behind_end new x (omega (arith, l))) ∙ e)
]

-- ---- the patterns of a table ----

both : (a b : Bool) → (a && b) ≡ true → b ≡ true
both true b e = e
both false b e = cc

none_of_both : (a b : Bool) → a ≡ false → (a && b) ≡ false
none_of_both a b e = ap (λ t. t && b) e

kinds : (b : Bool) → (b ≡ true) ⊎ (b ≡ false)
kinds true = inl refl
kinds false = inr refl

half_entry : (index : ℕ) (b : Bool) → entry_of index b / 2 ≡ index
half_entry index true = omega arith
half_entry index false = omega arith

odd_entry : (index : ℕ) (b : Bool) → has_captures_in (entry_of index b) ≡ b
odd_entry index true =
    let odd : (index * 2 + 1) % 2 ≡ 1 = omega arith in
    ap (λ n. n == 1) odd
odd_entry index false =
    let even : (index * 2 + 0) % 2 ≡ 0 = omega arith in
    ap (λ n. n == 1) even

module _ (any : Places) (rows : List ℕ) (words : ℕ) where
  abbrev told : ℕ → List Spot → List Flat
  told index spots = told_from any rows words index spots

  pub length_told : (index : ℕ) (spots : List Spot) → length (told index spots) ≡ length spots
  length_told index [] = refl
  length_told index (spot ∷ spots) = ap suc (length_told (suc index) spots)

  told_get : (index k : ℕ) (spots : List Spot) (s : Spot) (d : Flat) → k < length spots → get_or (told index spots) k d ≡ told_at any rows words (index + k) (get_or spots k s)
  told_get index k [] s d l = absurd (omega (arith, l))
  told_get index zero (spot ∷ spots) s d l =
      let same : index ≡ index + 0 = omega arith in
      ap (λ n. told_at any rows words n spot) same
  told_get index (suc k) (spot ∷ spots) s d l =
      let same : suc index + k ≡ index + suc k = omega arith in
      told_get (suc index) k spots s d (omega (arith, l)) ∙ ap (λ n. told_at any rows words n (get_or spots k s)) same

  told_first : (k : ℕ) (spots : List Spot) (s : Spot) (d : Flat) → k < length (told 0 spots) → get_or (told 0 spots) k d ≡ told_at any rows words k (get_or spots k s)
  told_first k spots s d l =
      let same : 0 + k ≡ k = omega arith in
      told_get 0 k spots s d (omega (arith, l, length_told 0 spots)) ∙ ap (λ n. told_at any rows words n (get_or spots k s)) same

  pub captures_told : (index : ℕ) (spots : List Spot) → list_any (λ f. f.has_captures) (told index spots) ≡ list_any (λ s. has_captures_in s.entry) spots
  captures_told index [] = refl
  captures_told index (spot ∷ spots) = ap (λ b. has_captures_in spot.entry || b) (captures_told (suc index) spots)

  pub spot_stands : (spots : List Spot) (flats : List Flat) (index : ℕ) (spot : Spot) (d : Flat) → told 0 spots ≡ flats → index < length flats → spot ≡ get_or spots index spot
      → spot_origin spot ≡ origin_of (get_or flats index d)
  spot_stands spots flats index spot d view inside is =
      ap spot_origin is ∙ ap origin_of (sym (told_first index spots spot d (omega (arith, inside, ap length view)))) ∙ ap (λ fs. origin_of (get_or fs index d)) view

  -- ---- the tables tell of them ----

  module _ (k : ℕ) (spot : Spot) where
    abbrev flat : Flat
    flat = told_at any rows words k spot

    begins_so : (x : ℕ) → x < 130 → is_in flat.begins x ≡ (is_in any x && is_told Side.Here rows words k x)
    begins_so x l = in_where (λ y. is_in any y && is_told Side.Here rows words k y) x l

    -- what it says of a side has its bit in the row
    side_so : (side : Side) (x : ℕ) → x < 130 → is_in (places_on side flat) x ≡ true → bit_of rows words (first_row side + x) k ≡ true
    side_so Side.Here x l e = both (is_in any x) (is_told Side.Here rows words k x) (sym (begins_so x l) ∙ e)
    side_so Side.Word x l e = sym (in_where (is_told Side.Word rows words k) x l) ∙ e
    side_so Side.Blank x l e = sym (in_where (is_told Side.Blank rows words k) x l) ∙ e

  module _ (spots : List Spot) where
    pub told_begin_in : BeginIn any (told 0 spots)
    told_begin_in x k d l m e =
        ap (λ f. is_in f.begins x) (told_first k spots (spot_of d) d m) ∙ begins_so k (get_or spots k (spot_of d)) x l ∙ none_of_both (is_in any x) (is_told Side.Here rows words k x) e

    pub told_rows : AreRowsOf rows words (told 0 spots)
    told_rows = record {
      sides = λ side x k d l m e.
          side_so k (get_or spots k (spot_of d)) side x l (ap (λ f. is_in (places_on side f) x) (sym (told_first k spots (spot_of d) d m)) ∙ e);
      edges = λ k d m e. not-false (bit_of rows words 130 k) (ap (λ f. f.at_edges) (sym (told_first k spots (spot_of d) d m)) ∙ e);
      lines = λ k d m e. not-false (bit_of rows words 131 k) (ap (λ f. f.at_lines) (sym (told_first k spots (spot_of d) d m)) ∙ e);
    }

  -- ---- less exact than what they were made of ----

  module _ (flats : List Flat) (r : AreRowsOf rows words flats) (b : BeginIn any flats) where
    module _ (k : ℕ) (d : Flat) (inside : k < length flats) where
      abbrev old : Flat
      old = get_or flats k d

      begin_less : (x : ℕ) → x < 130 → (is_in any x && is_told Side.Here rows words k x) ≡ false → is_in old.begins x ≡ false
      begin_less x l e = elim (kinds (is_in any x)) [
        | inl t ↦ side_out Side.Here rows words flats (r.sides Side.Here) x k d l inside (sym (ap (λ q. q && is_told Side.Here rows words k x) t) ∙ e)
        | inr f ↦ b x k d l inside f
      ]

      edges_less : not (bit_of rows words 130 k) ≡ true → old.at_edges ≡ true
      edges_less e = is_true (old.at_edges) (λ f. sym (r.edges k d inside f) ∙ not-true (bit_of rows words 130 k) e)

      lines_less : not (bit_of rows words 131 k) ≡ true → old.at_lines ≡ true
      lines_less e = is_true (old.at_lines) (λ f. sym (r.lines k d inside f) ∙ not-true (bit_of rows words 131 k) e)

      coarser_at : IsCoarser old (told_at any rows words k (spot_of old))
      coarser_at = record {
        context = refl;
        index = half_entry old.index old.has_captures;
        has_captures = odd_entry old.index old.has_captures;
        begins = holds_more old.begins _ (λ x l e. begin_less x l (sym (begins_so k (spot_of old) x l) ∙ e));
        words = holds_more old.words _ (λ x l e. side_out Side.Word rows words flats (r.sides Side.Word) x k d l inside (sym (in_where (is_told Side.Word rows words k) x l) ∙ e));
        blanks = holds_more old.blanks _ (λ x l e. side_out Side.Blank rows words flats (r.sides Side.Blank) x k d l inside (sym (in_where (is_told Side.Blank rows words k) x l) ∙ e));
        at_edges = edges_less;
        at_lines = lines_less;
      }

    pub told_coarser : (spots : List Spot) → spots ≡ map spot_of flats → AreCoarser flats (told 0 spots)
    told_coarser spots is =
        let same : length spots ≡ length flats = ap length is ∙ length-map flats spot_of in
        record {
          count = length_told 0 spots ∙ same;
          each = λ k d l.
              subst (λ f. IsCoarser (get_or flats k d) f) (sym (told_first k spots (spot_of d) d (omega (arith, l, same, length_told 0 spots)) ∙ ap (λ ss. told_at any rows words k (get_or ss k (spot_of d))) is ∙ ap (told_at any rows words k) (get_or-map spot_of flats k d (spot_of d) l)))
              (coarser_at k d l);
        }

-- ---- how lists are kept ----

same_flat : (f : Flat) → IsCoarser f f
same_flat f = record {
  context = refl;
  index = refl;
  has_captures = refl;
  begins = λ x e. e;
  words = λ x e. e;
  blanks = λ x e. e;
  at_edges = λ e. e;
  at_lines = λ e. e;
}

pub keeps_plain : (flats : List Flat) (slims : Vec Slim) (places : Vec Places) → map (widened places.items) slims.items ≡ flats → KeepsAll flats (Form.Plain slims places)
keeps_plain flats slims places e any b = (
  record { counted = ap length (sym e); any_begins = subst (BeginIn any) (sym e) b; tabled = tt },
  subst (AreCoarser flats) (sym e) (record { count = refl; each = λ k d l. same_flat (get_or flats k d) }),
)

-- a table was made of these patterns
pub record IsTableOf (flats : List Flat) (table : Table) : Type 0 where
  pub room : length flats ≤ table.words * 64
  pub whole : IsPacked table.words table.rows
  pub rows : AreRowsOf (unpacked table.words table.rows) table.words flats
  pub spots : table.spots.items ≡ map spot_of flats

module _ (flats : List Flat) (table : Table) (of : IsTableOf flats table) (any : Places) (b : BeginIn any flats) where
  coarser_shown : AreCoarser flats (told_by any table)
  coarser_shown = told_coarser any (unpacked table.words table.rows) table.words flats of.rows b table.spots.items of.spots

  tabled_shown : IsTabled table.rows table.words (told_by any table)
  tabled_shown = record {
    rows = told_rows any (unpacked table.words table.rows) table.words table.spots.items;
    room = omega (arith, of.room, coarser_shown.count);
    whole = of.whole;
  }

pub keeps_table : (flats : List Flat) (table : Box Table) → IsTableOf flats table.value → KeepsAll flats (Form.Tabled table)
keeps_table flats table of any b = (
  record {
    counted = sym (coarser_shown flats table.value of any b).count;
    any_begins = told_begin_in any (unpacked table.value.words table.value.rows) table.value.words table.value.spots.items;
    tabled = tabled_shown flats table.value of any b;
  },
  coarser_shown flats table.value of any b,
)

-- ---- what is read of a table ----

module _ (any : Places) (boxed : Box Table) (flats : List Flat) (view : flats_in any (Form.Tabled boxed) ≡ flats) (table : Table) (e : table ≡ boxed.value) where
  told_so : told_by any table ≡ flats
  told_so = ap (told_by any) e ∙ view

  pub table_captures : list_any (λ s. has_captures_in s.entry) table.spots.items ≡ list_any (λ f. f.has_captures) flats
  table_captures =
      sym (captures_told any (unpacked table.words table.rows) table.words 0 table.spots.items) ∙ ap (list_any (λ f. f.has_captures)) told_so

  pub table_length : length table.spots.items ≡ length flats
  table_length = sym (length_told any (unpacked table.words table.rows) table.words 0 table.spots.items) ∙ ap length told_so

  pub table_origin : (index : ℕ) (spot : Spot) (d : Flat) → index < length flats → spot ≡ get_or table.spots.items index spot → spot_origin spot ≡ origin_of (get_or flats index d)
  table_origin index spot d inside is =
      spot_stands any (unpacked table.words table.rows) table.words table.spots.items flats index spot d told_so inside is
