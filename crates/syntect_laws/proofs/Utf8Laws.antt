-- What the printers write is UTF-8.
use Rattle.std.proofs.Common.{◌≡◌, ℕ, zero, suc, ◌+◌, ◌/◌, ◌%◌, ◌<◌, ◌≤◌, ◌==◌, Bool, true, false, not, ◌&&◌, ◌||◌, List, [], ◌∷◌, ◌++◌, length, flat_map, codes, IsUtf8, IsAscii, refl, subst, inl, inr, arith, append-nil}
use Rattle.std.specs.Prelude.{nat_lt, nat_le, if◌then◌else◌}
use lib.Utf8.{encode, encodes, scalar as is_scalar, scalars}
use Rattle.std.specs.Fmt.{signed_decimal}
use Rattle.std.specs.List.{list_all}
use Rattle.std.proofs.lemmas.Bool.{cases_Bool, and_parts}
use Rattle.std.proofs.lemmas.Bool.Decides.{nat_tests}
use Rattle.std.proofs.lemmas.Fmt.{IsAscii-signed}
use Rattle.std.proofs.lemmas.Grind.{flat_map-append}
use Rattle.std.proofs.lemmas.Str.{IsUtf8-nil, IsUtf8-append, IsUtf8-from_ascii, encode_ascii}
use Rattle.syntect_yaml.specs.Node.{Node, scalar, list, map, Items, no_items, item, Entries, no_entries, entry}
use Rattle.syntect_yaml.specs.declared.value.Scalar.{Scalar}
use Rattle.syntect_yaml.specs.declared.value.Scalar.TheVariants.{Text, Number, Truth, Null}
use Rattle.syntect_laws.specs.YamlTexts.{Style, plain, single_quotes, double_quotes, literal, hex_digit, is_control, is_plain, is_printable, single_byte_text, single_quoted_text, double_byte_text, double_quoted_text, styled_text}
use Rattle.syntect_laws.specs.Literal.{indent, ends_in_feed, ends_in_one_feed, indented_text, literal_text}
use Rattle.syntect_laws.specs.Flow.{scalar_text, flow_text, items_text, more_items_text, entries_text, more_entries_text}
use Rattle.syntect_laws.specs.Block.{stands_literal, is_short, before_value, scalar_lines, block_text, items_lines, more_items_lines, entries_lines, more_entries_lines}
use Rattle.syntect_laws.specs.YamlLaws.{ScalarFits, Fits, ItemsFit, EntriesFit, ScalarIsUtf8, HasUtf8, ItemsHaveUtf8, EntriesHaveUtf8}

-- ---- bytes

abbrev is_low : ℕ → Bool
is_low b = nat_lt b 128

abbrev is_high : ℕ → Bool
is_high b = nat_le 128 b

-- ASCII by a test of each byte
ascii : (bs : List ℕ) → list_all is_low bs ≡ true → IsAscii bs
ascii [] h i = omega arith
ascii (b ∷ bs) h zero = let low : nat_lt b 128 ≡ true = (and_parts (is_low b) (list_all is_low bs) h).0 in grind (arith, nat_tests)
ascii (b ∷ bs) h (suc i) = ascii bs (and_parts (is_low b) (list_all is_low bs) h).1 i

low_utf8 : (bs : List ℕ) → list_all is_low bs ≡ true → IsUtf8 bs
low_utf8 bs h = IsUtf8-from_ascii bs (ascii bs h)

spaces_utf8 : (n : ℕ) → list_all is_low (indent n) ≡ true
spaces_utf8 zero = refl
spaces_utf8 (suc n) = spaces_utf8 n

-- the bytes of a character beyond ASCII
high_bytes : (c : ℕ) → 128 ≤ c → list_all is_high (encode c) ≡ true
unfolding encode
high_bytes c h =
    let one : nat_lt c 128 ≡ false = grind (arith, nat_tests) in
    let last : is_high (128 + c % 64) ≡ true = grind (arith, nat_tests) in
    let third : is_high (128 + c / 64 % 64) ≡ true = grind (arith, nat_tests) in
    let second : is_high (128 + c / 4096 % 64) ≡ true = grind (arith, nat_tests) in
    let of_two : is_high (192 + c / 64) ≡ true = grind (arith, nat_tests) in
    let of_three : is_high (224 + c / 4096) ≡ true = grind (arith, nat_tests) in
    let of_four : is_high (240 + c / 262144) ≡ true = grind (arith, nat_tests) in
    elim (cases_Bool (nat_lt c 2048)) [
      | inl two ↦ rw (one, two, of_two, last)
      | inr more ↦ elim (cases_Bool (nat_lt c 65536)) [ inl three ↦ rw (one, more, three, of_three, third, last) | inr four ↦ rw (one, more, four, of_four, second, third, last) ]
    ]

some_byte : (c : ℕ) → 0 < length (encode c)
unfolding encode
some_byte c =
    elim (cases_Bool (nat_lt c 128)) [
      | inl one ↦ rw one (omega arith)
      | inr high ↦ elim (cases_Bool (nat_lt c 2048)) [
        | inl two ↦ rw (high, two) (omega arith)
        | inr more ↦ elim (cases_Bool (nat_lt c 65536)) [ inl three ↦ rw (high, more, three) (omega arith) | inr four ↦ rw (high, more, four) (omega arith) ]
      ]
    ]

one_utf8 : (c : ℕ) → is_scalar c ≡ true → IsUtf8 (encode c)
one_utf8 c h = (c ∷ [], (rw h, append-nil (encode c)))

-- ---- a byte after another

module _ (f : ℕ → List ℕ) (lows : (b : ℕ) → is_low b ≡ true → list_all is_low (f b) ≡ true) (highs : (b : ℕ) → is_high b ≡ true → f b ≡ b ∷ []) where
  high_same : (bs : List ℕ) → list_all is_high bs ≡ true → flat_map f bs ≡ bs
  high_same [] h = refl
  high_same (b ∷ bs) h = let parts = and_parts (is_high b) (list_all is_high bs) h in rw (highs b parts.0, high_same bs parts.1)

  char_utf8 : (c : ℕ) → is_scalar c ≡ true → IsUtf8 (flat_map f (encode c))
  char_utf8 c h =
      elim (cases_Bool (nat_lt c 128)) [
        | inl low ↦ let small : c < 128 = grind (arith, nat_tests) in rw (encode_ascii c small, append-nil (f c)) (low_utf8 (f c) (lows c low))
        | inr high ↦ let large : 128 ≤ c = grind (arith, nat_tests) in rw (high_same (encode c) (high_bytes c large)) (one_utf8 c h)
      ]

  chars_utf8 : (cs : List ℕ) → scalars cs ≡ true → IsUtf8 (flat_map f (encodes cs))
  chars_utf8 [] h = IsUtf8-nil
  chars_utf8 (c ∷ cs) h =
      let parts = and_parts (is_scalar c) (scalars cs) h in
      rw (flat_map-append f (encode c) (encodes cs)) (IsUtf8-append (flat_map f (encode c)) (flat_map f (encodes cs)) (char_utf8 c parts.0) (chars_utf8 cs parts.1))

  bytes_utf8 : (s : List ℕ) → IsUtf8 s → IsUtf8 (flat_map f s)
  bytes_utf8 s h = subst (λ (bs : List ℕ). IsUtf8 (flat_map f bs)) h.1.1 (chars_utf8 h.0 h.1.0)

-- ---- texts

single_lows : (b : ℕ) → is_low b ≡ true → list_all is_low (single_byte_text b) ≡ true
single_lows b h = elim (cases_Bool (b == 39)) [ inl e ↦ rw e | inr e ↦ rw (e, h) ]

single_highs : (b : ℕ) → is_high b ≡ true → single_byte_text b ≡ b ∷ []
single_highs b h = let other : (b == 39) ≡ false = grind (arith, nat_tests) in rw other

hex_low : (n : ℕ) → n < 16 → is_low (hex_digit n) ≡ true
hex_low n h = grind (arith, nat_tests)

double_lows : (b : ℕ) → is_low b ≡ true → list_all is_low (double_byte_text b) ≡ true
double_lows b h =
    let small : b < 128 = grind (arith, nat_tests) in
    elim (cases_Bool (b == 34 || b == 92)) [
      | inl mark ↦ rw (mark, h)
      | inr other ↦ elim (cases_Bool (is_control b)) [ inl control ↦ rw (other, control, hex_low (b / 16) (omega arith), hex_low (b % 16) (omega arith)) | inr none ↦ rw (other, none, h) ]
    ]

double_highs : (b : ℕ) → is_high b ≡ true → double_byte_text b ≡ b ∷ []
double_highs b h =
    let mark : (b == 34 || b == 92) ≡ false = grind (arith, nat_tests) in
    let control : is_control b ≡ false = grind (arith, nat_tests) in
    rw (mark, control)

single_utf8 : (s : List ℕ) → IsUtf8 s → IsUtf8 (single_quoted_text s)
single_utf8 s h = IsUtf8-append (codes "'") _ (low_utf8 (codes "'") refl) (IsUtf8-append (flat_map single_byte_text s) (codes "'") (bytes_utf8 single_byte_text single_lows single_highs s h) (low_utf8 (codes "'") refl))

double_utf8 : (s : List ℕ) → IsUtf8 s → IsUtf8 (double_quoted_text s)
double_utf8 s h = IsUtf8-append (codes "\"") _ (low_utf8 (codes "\"") refl) (IsUtf8-append (flat_map double_byte_text s) (codes "\"") (bytes_utf8 double_byte_text double_lows double_highs s h) (low_utf8 (codes "\"") refl))

styled_utf8 : (way : Style) (s : List ℕ) → IsUtf8 s → IsUtf8 (styled_text way s)
styled_utf8 plain s h = elim (cases_Bool (is_plain s)) [ inl e ↦ rw e h | inr e ↦ rw e (double_utf8 s h) ]
styled_utf8 single_quotes s h = elim (cases_Bool (is_printable s)) [ inl e ↦ rw e (single_utf8 s h) | inr e ↦ rw e (double_utf8 s h) ]
styled_utf8 double_quotes s h = double_utf8 s h
styled_utf8 literal s h = double_utf8 s h

-- ---- texts over lines

in_line : (column : ℕ) (w t : List ℕ) → list_all is_high w ≡ true → indented_text column false (w ++ t) ≡ w ++ indented_text column false t
in_line column [] t h = refl
in_line column (b ∷ w) t h =
    let parts = and_parts (is_high b) (list_all is_high w) h in
    let high : nat_le 128 b ≡ true = parts.0 in
    let other : (b == 10) ≡ false = grind (arith, nat_tests) in
    rw (other, in_line column w t parts.1)

front_utf8 : (column : ℕ) (here : Bool) → IsUtf8 (if here then indent column else [])
front_utf8 column true = low_utf8 (indent column) (spaces_utf8 column)
front_utf8 column false = IsUtf8-nil

high_line : (column : ℕ) (begins : Bool) (w t : List ℕ) → list_all is_high w ≡ true → 0 < length w → IsUtf8 w → IsUtf8 (indented_text column false t) → IsUtf8 (indented_text column begins (w ++ t))
high_line column begins [] t h some k l = absurd (omega arith)
high_line column begins (b ∷ w) t h some k l =
    let parts = and_parts (is_high b) (list_all is_high w) h in
    let high : nat_le 128 b ≡ true = parts.0 in
    let other : (b == 10) ≡ false = grind (arith, nat_tests) in
    let front : List ℕ = if begins && not (b == 10) then indent column else [] in
    IsUtf8-append front (b ∷ indented_text column (b == 10) (w ++ t)) (front_utf8 column (begins && not (b == 10)))
    (rw (other, in_line column w t parts.1) (IsUtf8-append (b ∷ w) (indented_text column false t) k l))

low_line : (column : ℕ) (begins : Bool) (c : ℕ) (t : List ℕ) → nat_lt c 128 ≡ true → IsUtf8 (indented_text column (c == 10) t) → IsUtf8 (indented_text column begins (c ∷ t))
low_line column begins c t low l =
    IsUtf8-append (if begins && not (c == 10) then indent column else []) (c ∷ indented_text column (c == 10) t) (front_utf8 column (begins && not (c == 10)))
    (IsUtf8-append (c ∷ []) (indented_text column (c == 10) t) (low_utf8 (c ∷ []) (rw low)) l)

lines_utf8 : (cs : List ℕ) (column : ℕ) (begins : Bool) → scalars cs ≡ true → IsUtf8 (indented_text column begins (encodes cs))
lines_utf8 [] column begins h = IsUtf8-nil
lines_utf8 (c ∷ cs) column begins h =
    let parts = and_parts (is_scalar c) (scalars cs) h in
    elim (cases_Bool (nat_lt c 128)) [
      | inl low ↦ let small : c < 128 = grind (arith, nat_tests) in rw (encode_ascii c small) (low_line column begins c (encodes cs) low (lines_utf8 cs column (c == 10) parts.1))
      | inr high ↦
          let large : 128 ≤ c = grind (arith, nat_tests) in
          high_line column begins (encode c) (encodes cs) (high_bytes c large) (some_byte c) (one_utf8 c parts.0) (lines_utf8 cs column false parts.1)
    ]

indented_utf8 : (column : ℕ) (s : List ℕ) → IsUtf8 s → IsUtf8 (indented_text column true s)
indented_utf8 column s h = subst (λ (bs : List ℕ). IsUtf8 (indented_text column true bs)) h.1.1 (lines_utf8 h.0 column true h.1.0)

literal_utf8 : (column : ℕ) (s : List ℕ) → IsUtf8 s → IsUtf8 (literal_text column s)
literal_utf8 column s h =
    let body = indented_utf8 column s h in
    elim (cases_Bool (ends_in_one_feed s)) [
      | inl one ↦ rw one (IsUtf8-append (codes "|\n") (indented_text column true s) (low_utf8 (codes "|\n") refl) body)
      | inr more ↦ elim (cases_Bool (ends_in_feed s)) [
        | inl feed ↦ rw (more, feed) (IsUtf8-append (codes "|+\n") (indented_text column true s) (low_utf8 (codes "|+\n") refl) body)
        | inr none ↦ rw (more, none)
            (IsUtf8-append (codes "|-\n") (indented_text column true s ++ codes "\n") (low_utf8 (codes "|-\n") refl) (IsUtf8-append (indented_text column true s) (codes "\n") body (low_utf8 (codes "\n") refl)))
      ]
    ]

-- ---- values

before_utf8 : (column : ℕ) (v : Node) → IsUtf8 (before_value column v)
before_utf8 column v =
    elim (cases_Bool (is_short v)) [ inl short ↦ rw short (low_utf8 (codes " ") refl) | inr long ↦ rw long (low_utf8 (10 ∷ indent column) (spaces_utf8 column)) ]

module _ (style : List ℕ → Style) where
  scalar_utf8 : (s : Scalar) → ScalarFits s → ScalarIsUtf8 s → IsUtf8 (scalar_text style s)
  scalar_utf8 (Text s) fits h = styled_utf8 (style s) s h
  scalar_utf8 (Number z) fits h = IsUtf8-from_ascii (signed_decimal z) (IsAscii-signed z fits.sfits)
  scalar_utf8 (Truth true) fits h = low_utf8 (codes "true") refl
  scalar_utf8 (Truth false) fits h = low_utf8 (codes "false") refl
  scalar_utf8 Null fits h = low_utf8 (codes "null") refl

  mutual
    flow_utf8 : (v : Node) → Fits v → HasUtf8 v → IsUtf8 (flow_text style v)
    flow_utf8 (scalar s) fits h = scalar_utf8 s fits h
    flow_utf8 (list vs) fits h = IsUtf8-append (codes "[") _ (low_utf8 (codes "[") refl) (IsUtf8-append (items_text style vs) (codes "]") (items_utf8 vs fits h) (low_utf8 (codes "]") refl))
    flow_utf8 (map es) fits h = IsUtf8-append (codes "{") _ (low_utf8 (codes "{") refl) (IsUtf8-append (entries_text style es) (codes "}") (entries_utf8 es fits h) (low_utf8 (codes "}") refl))

    items_utf8 : (vs : Items) → ItemsFit vs → ItemsHaveUtf8 vs → IsUtf8 (items_text style vs)
    items_utf8 no_items fits h = IsUtf8-nil
    items_utf8 (item v vs) fits h = IsUtf8-append (flow_text style v) (more_items_text style vs) (flow_utf8 v fits.0 h.0) (more_items_utf8 vs fits.1 h.1)

    more_items_utf8 : (vs : Items) → ItemsFit vs → ItemsHaveUtf8 vs → IsUtf8 (more_items_text style vs)
    more_items_utf8 no_items fits h = IsUtf8-nil
    more_items_utf8 (item v vs) fits h =
        IsUtf8-append (codes ", ") _ (low_utf8 (codes ", ") refl) (IsUtf8-append (flow_text style v) (more_items_text style vs) (flow_utf8 v fits.0 h.0) (more_items_utf8 vs fits.1 h.1))

    entries_utf8 : (es : Entries) → EntriesFit es → EntriesHaveUtf8 es → IsUtf8 (entries_text style es)
    entries_utf8 no_entries fits h = IsUtf8-nil
    entries_utf8 (entry k v es) fits h =
        IsUtf8-append (scalar_text style k) _ (scalar_utf8 k fits.0 h.0)
        (IsUtf8-append (codes ": ") _ (low_utf8 (codes ": ") refl) (IsUtf8-append (flow_text style v) (more_entries_text style es) (flow_utf8 v fits.2 h.1) (more_entries_utf8 es fits.3 h.2)))

    more_entries_utf8 : (es : Entries) → EntriesFit es → EntriesHaveUtf8 es → IsUtf8 (more_entries_text style es)
    more_entries_utf8 no_entries fits h = IsUtf8-nil
    more_entries_utf8 (entry k v es) fits h =
        IsUtf8-append (codes ", ") _ (low_utf8 (codes ", ") refl)
        (IsUtf8-append (scalar_text style k) _ (scalar_utf8 k fits.0 h.0)
        (IsUtf8-append (codes ": ") _ (low_utf8 (codes ": ") refl) (IsUtf8-append (flow_text style v) (more_entries_text style es) (flow_utf8 v fits.2 h.1) (more_entries_utf8 es fits.3 h.2))))

  line_utf8 : (s : Scalar) → ScalarFits s → ScalarIsUtf8 s → IsUtf8 (scalar_text style s ++ codes "\n")
  line_utf8 s fits h = IsUtf8-append (scalar_text style s) (codes "\n") (scalar_utf8 s fits h) (low_utf8 (codes "\n") refl)

  scalar_lines_utf8 : (s : Scalar) (column : ℕ) → ScalarFits s → ScalarIsUtf8 s → IsUtf8 (scalar_lines style column s)
  scalar_lines_utf8 (Text s) column fits h =
      elim (cases_Bool (stands_literal column (style s) s)) [ inl lines ↦ rw lines (literal_utf8 column s h) | inr line ↦ rw line (line_utf8 (Text s) fits h) ]
  scalar_lines_utf8 (Number z) column fits h = line_utf8 (Number z) fits h
  scalar_lines_utf8 (Truth b) column fits h = line_utf8 (Truth b) fits h
  scalar_lines_utf8 Null column fits h = line_utf8 Null fits h

  mutual
    block_utf8 : (v : Node) (column : ℕ) → Fits v → HasUtf8 v → IsUtf8 (block_text style column v)
    block_utf8 (scalar s) column fits h = scalar_lines_utf8 s column fits h
    block_utf8 (list vs) column fits h = list_utf8 vs column fits h
    block_utf8 (map es) column fits h = map_utf8 es column fits h

    list_utf8 : (vs : Items) (column : ℕ) → ItemsFit vs → ItemsHaveUtf8 vs → IsUtf8 (items_lines style column vs)
    list_utf8 no_items column fits h = low_utf8 (codes "[]\n") refl
    list_utf8 (item v vs) column fits h =
        IsUtf8-append (codes "- ") _ (low_utf8 (codes "- ") refl)
        (IsUtf8-append (block_text style (column + 2) v) (more_items_lines style column vs) (block_utf8 v (column + 2) fits.0 h.0) (more_list_utf8 vs column fits.1 h.1))

    more_list_utf8 : (vs : Items) (column : ℕ) → ItemsFit vs → ItemsHaveUtf8 vs → IsUtf8 (more_items_lines style column vs)
    more_list_utf8 no_items column fits h = IsUtf8-nil
    more_list_utf8 (item v vs) column fits h =
        IsUtf8-append (indent column) _ (low_utf8 (indent column) (spaces_utf8 column))
        (IsUtf8-append (codes "- ") _ (low_utf8 (codes "- ") refl)
        (IsUtf8-append (block_text style (column + 2) v) (more_items_lines style column vs) (block_utf8 v (column + 2) fits.0 h.0) (more_list_utf8 vs column fits.1 h.1)))

    map_utf8 : (es : Entries) (column : ℕ) → EntriesFit es → EntriesHaveUtf8 es → IsUtf8 (entries_lines style column es)
    map_utf8 no_entries column fits h = low_utf8 (codes "{}\n") refl
    map_utf8 (entry k v es) column fits h =
        IsUtf8-append (scalar_text style k) _ (scalar_utf8 k fits.0 h.0)
        (IsUtf8-append (codes ":") _ (low_utf8 (codes ":") refl)
        (IsUtf8-append (before_value (column + 2) v) _ (before_utf8 (column + 2) v)
        (IsUtf8-append (block_text style (column + 2) v) (more_entries_lines style column es) (block_utf8 v (column + 2) fits.2 h.1) (more_map_utf8 es column fits.3 h.2))))

    more_map_utf8 : (es : Entries) (column : ℕ) → EntriesFit es → EntriesHaveUtf8 es → IsUtf8 (more_entries_lines style column es)
    more_map_utf8 no_entries column fits h = IsUtf8-nil
    more_map_utf8 (entry k v es) column fits h =
        IsUtf8-append (indent column) _ (low_utf8 (indent column) (spaces_utf8 column))
        (IsUtf8-append (scalar_text style k) _ (scalar_utf8 k fits.0 h.0)
        (IsUtf8-append (codes ":") _ (low_utf8 (codes ":") refl)
        (IsUtf8-append (before_value (column + 2) v) _ (before_utf8 (column + 2) v)
        (IsUtf8-append (block_text style (column + 2) v) (more_entries_lines style column es) (block_utf8 v (column + 2) fits.2 h.1) (more_map_utf8 es column fits.3 h.2)))))

pub writes_utf8 : (style : List ℕ → Style) (v : Node) → Fits v → HasUtf8 v → IsUtf8 (flow_text style v) × IsUtf8 (block_text style 0 v)
writes_utf8 style v fits h = (flow_utf8 style v fits h, block_utf8 style v 0 fits h)
