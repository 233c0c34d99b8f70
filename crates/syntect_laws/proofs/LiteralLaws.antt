-- Texts over lines are read back.
use Rattle.std.proofs.Common.{◌≡◌, ℕ, zero, suc, ◌+◌, ◌-◌, ◌<◌, ◌≤◌, ◌==◌, min, Bool, true, false, not, ◌||◌, ◌&&◌, ◌⊎◌, List, [], ◌∷◌, ◌++◌, length, drop, Some, refl, sym, ap, ◌∙◌, inl, inr, arith, one-add, append_assoc, length-append}
use Rattle.std.specs.Prelude.{nat_lt, nat_le, slice_index, if◌then◌else◌}
use Rattle.std.specs.List.{prefix_len, list_all}
use Rattle.std.proofs.lemmas.Bool.{cases_Bool, and_parts}
use Rattle.std.proofs.lemmas.Bool.Decides.{nat_tests}
use Rattle.std.proofs.Math.Seq.{take-append_seam}
use Rattle.syntect_yaml.specs.Lines.{Rest, is_space, is_in_line, after_run, ends_line, line_tail}
use Rattle.syntect_yaml.specs.Scalars.{prepend}
use Rattle.syntect_yaml.specs.Literal.{text_column, belongs, line_len, line_text, lines, onto, stripped, closed, literal}
use Rattle.syntect_yaml.proofs.LiteralLaws.{column_here, lines_more}
use Rattle.syntect_laws.specs.YamlTexts.{is_control}
use Rattle.syntect_laws.specs.Literal.{indent, is_literal, ends_in_one_feed, ends_in_feed, indented_text, literal_text}

-- ---- runs

run_more : (test : ℕ → Bool) (n : ℕ) (t : Rest) → test 32 ≡ true → prefix_len test (indent n ++ t) ≡ n + prefix_len test t
run_more test zero t e = omega arith
run_more test (suc n) t e = rw (e, run_more test n t e) (omega arith)

behind : (n : ℕ) (t : Rest) → drop n (indent n ++ t) ≡ t
behind zero t = refl
behind (suc n) t = behind n t

run_behind : (n : ℕ) (t : Rest) → after_run is_in_line (indent n ++ t) ≡ after_run is_in_line t
run_behind zero t = refl
run_behind (suc n) t = rw one-add (run_behind n t)

-- a byte of a line
abbrev pub is_text_byte : ℕ → Bool
is_text_byte c = not (is_control c)

no_feed : (c : ℕ) → is_text_byte c ≡ true → is_in_line c ≡ true
no_feed c h = grind (arith, nat_tests)

line_run : (w : List ℕ) (t : Rest) → list_all is_text_byte w ≡ true → prefix_len is_in_line (w ++ (10 ∷ t)) ≡ length w
line_run [] t h = refl
line_run (c ∷ w) t h = let parts = and_parts (is_text_byte c) (list_all is_text_byte w) h in rw (no_feed c parts.0, line_run w t parts.1, one-add)

line_end : (w : List ℕ) (t : Rest) → list_all is_text_byte w ≡ true → after_run is_in_line (w ++ (10 ∷ t)) ≡ 10 ∷ t
line_end [] t h = refl
line_end (c ∷ w) t h = let parts = and_parts (is_text_byte c) (list_all is_text_byte w) h in rw (no_feed c parts.0, one-add) (line_end w t parts.1)

feed_at : (w : List ℕ) (t : Rest) → slice_index (w ++ (10 ∷ t)) (length w) ≡ 10
feed_at [] t = refl
feed_at (c ∷ w) t = feed_at w t

byte_at : (c : ℕ) (w : List ℕ) (t : Rest) → list_all is_text_byte (c ∷ w) ≡ true → 32 ≤ slice_index (c ∷ (w ++ (10 ∷ t))) (length w)
byte_at c [] t h = let low : not (is_control c) ≡ true = (and_parts (is_text_byte c) true h).0 in grind (arith, nat_tests)
byte_at c (d ∷ w) t h = byte_at d w t (and_parts (is_text_byte c) (list_all is_text_byte (d ∷ w)) h).1

no_return : (w : List ℕ) (t : Rest) → list_all is_text_byte w ≡ true → (slice_index (w ++ (10 ∷ t)) (length w - 1) == 13) ≡ false
no_return [] t h = refl
no_return (c ∷ w) t h =
    let less : suc (length w) - 1 ≡ length w = omega arith in
    let high = byte_at c w t h in
    rw less (grind (arith, nat_tests))

-- ---- one line

whole_line : (w : List ℕ) (t : Rest) → list_all is_text_byte w ≡ true → line_len (w ++ (10 ∷ t)) ≡ length w
unfolding line_len
whole_line w t h = rw (line_run w t h, feed_at w t, no_return w t h)

words_of_line : (column : ℕ) (w : List ℕ) (t : Rest) → list_all is_text_byte w ≡ true → line_text column (indent column ++ (w ++ (10 ∷ t))) ≡ w ++ (10 ∷ [])
unfolding line_text
words_of_line column w t h =
    let all : min (column + prefix_len is_space (w ++ (10 ∷ t))) column ≡ column = omega arith in
    rw (run_more is_space column (w ++ (10 ∷ t)) refl, all, behind column (w ++ (10 ∷ t)), whole_line w t h, take-append_seam w (10 ∷ t), line_run w t h, feed_at w t)

or_true : (b : Bool) → (b || true) ≡ true
or_true true = refl
or_true false = refl

line_belongs : (column : ℕ) (t : Rest) → 0 < column → belongs column (indent column ++ t) ≡ true
unfolding belongs
line_belongs column t some =
    let deep : nat_le column (column + prefix_len is_space t) ≡ true = grind (arith, nat_tests) in
    let inner : (column == 0) ≡ false = grind (arith, nat_tests) in
    rw (run_more is_space column t refl, deep, inner) (or_true _)

empty_belongs : (column : ℕ) (t : Rest) → belongs column (10 ∷ t) ≡ true
unfolding belongs
empty_belongs column t = let some : (length (10 ∷ t) == 0) ≡ false = grind (arith, nat_tests) in rw some

empty_line : (column : ℕ) (t : Rest) → line_text column (10 ∷ t) ≡ 10 ∷ []
unfolding line_text line_len
empty_line column t = let none : min 0 column ≡ 0 = omega arith in rw none

-- a line as it stands: spaces before it, but not before an empty one
abbrev line_of : ℕ → List ℕ → List ℕ
line_of column [] = []
line_of column (c ∷ w) = indent column ++ (c ∷ w)

line_read : (column n : ℕ) (w : List ℕ) (t : Rest) → 0 < column → 0 < n → list_all is_text_byte w ≡ true → lines column n (line_of column w ++ (10 ∷ t)) ≡ prepend (w ++ (10 ∷ [])) (lines column (n - 1) t)
line_read column n [] t some room h = lines_more column n (10 ∷ t) room (omega arith) (empty_belongs column t) ∙ rw (empty_line column t)
line_read column n (c ∷ w) t some room h =
    let long : 0 < length (indent column ++ ((c ∷ w) ++ (10 ∷ t))) = omega (arith, length-append (indent column) ((c ∷ w) ++ (10 ∷ t))) in
    rw (append_assoc (indent column) (c ∷ w) (10 ∷ t))
    (lines_more column n (indent column ++ ((c ∷ w) ++ (10 ∷ t))) room long (line_belongs column ((c ∷ w) ++ (10 ∷ t)) some)
    ∙ rw (words_of_line column (c ∷ w) t h, run_behind column ((c ∷ w) ++ (10 ∷ t)), line_end (c ∷ w) t h))

-- ---- all lines

abbrev pub is_literal_byte : ℕ → Bool
is_literal_byte c = is_text_byte c || c == 10

in_line : (column : ℕ) (w rest : List ℕ) → list_all is_text_byte w ≡ true → indented_text column false (w ++ (10 ∷ rest)) ≡ w ++ (10 ∷ indented_text column true rest)
in_line column [] rest h = refl
in_line column (c ∷ w) rest h =
    let parts = and_parts (is_text_byte c) (list_all is_text_byte w) h in
    let low : not (is_control c) ≡ true = parts.0 in
    let other : (c == 10) ≡ false = grind (arith, nat_tests) in
    rw (other, in_line column w rest parts.1)

indented_line : (column : ℕ) (w rest : List ℕ) → list_all is_text_byte w ≡ true → indented_text column true (w ++ (10 ∷ rest)) ≡ line_of column w ++ (10 ∷ indented_text column true rest)
indented_line column [] rest h = refl
indented_line column (c ∷ w) rest h =
    let parts = and_parts (is_text_byte c) (list_all is_text_byte w) h in
    let low : not (is_control c) ≡ true = parts.0 in
    let other : (c == 10) ≡ false = grind (arith, nat_tests) in
    rw (other, in_line column w rest parts.1, append_assoc (indent column) (c ∷ w) (10 ∷ indented_text column true rest))

-- the text is empty or ends with a line feed
abbrev pub IsClosed : List ℕ → Type 0
IsClosed s = (s ≡ []) ⊎ (ends_in_feed s ≡ true)

record FirstLine (s : List ℕ) : Type 0 where
  line : List ℕ
  rest : List ℕ
  is : s ≡ line ++ (10 ∷ rest)
  inside : list_all is_text_byte line ≡ true
  bytes : list_all is_literal_byte rest ≡ true
  ends : IsClosed rest

more_line : (c : ℕ) (s : List ℕ) → is_text_byte c ≡ true → FirstLine s → FirstLine (c ∷ s)
more_line c s h l = record { line = c ∷ l.line; rest = l.rest; is = ap (λ (xs : List ℕ). c ∷ xs) l.is; inside = rw (h, l.inside); bytes = l.bytes; ends = l.ends }

first_line : (s : List ℕ) → ends_in_feed s ≡ true → list_all is_literal_byte s ≡ true → FirstLine s
first_line [] e h = let f : false ≡ true = e in cc
first_line (c ∷ []) e h =
    let feed : c ≡ 10 = grind (arith, nat_tests) in
    record { line = []; rest = []; is = ap (λ (b : ℕ). b ∷ []) feed; inside = refl; bytes = refl; ends = inl refl }
first_line (c ∷ d ∷ s) e h =
    let parts = and_parts (is_literal_byte c) (list_all is_literal_byte (d ∷ s)) h in
    elim (cases_Bool (c == 10)) [
      | inl feed ↦ let is : c ≡ 10 = grind (arith, nat_tests) in record { line = []; rest = d ∷ s; is = ap (λ (b : ℕ). b ∷ d ∷ s) is; inside = refl; bytes = parts.1; ends = inr e }
      | inr other ↦
          let literal_byte : (not (is_control c) || c == 10) ≡ true = parts.0 in
          let low : not (is_control c) ≡ true = grind (arith, nat_tests) in
          more_line c (d ∷ s) low (first_line (d ∷ s) e parts.1)
    ]

-- the lines of no text begin here
abbrev pub Stops : ℕ → Rest → Type 0
Stops column t = (m : ℕ) → 0 < m → lines column m t ≡ Some ([], t)

line_joined : (column : ℕ) (s w rest t : List ℕ) → s ≡ w ++ (10 ∷ rest) → list_all is_text_byte w ≡ true → indented_text column true s ++ t ≡ line_of column w ++ (10 ∷ (indented_text column true rest ++ t))
line_joined column s w rest t is h = rw (is, indented_line column w rest h, append_assoc (line_of column w) (10 ∷ indented_text column true rest) t)

lines_read : (n column : ℕ) (s t : List ℕ) → 0 < column → Stops column t → IsClosed s → list_all is_literal_byte s ≡ true → length (indented_text column true s ++ t) < n
    → lines column n (indented_text column true s ++ t) ≡ Some (s, t)
lines_read zero column s t some stop ends bytes room = absurd (omega arith)
lines_read (suc n) column s t some stop ends bytes room =
    elim ends [
      | inl none ↦ rw none (stop (suc n) (omega arith))
      | inr feed ↦
          let l = first_line s feed bytes in
          let rest : List ℕ = indented_text column true l.rest ++ t in
          let less : suc n - 1 ≡ n = omega arith in
          let joined : indented_text column true s ++ t ≡ line_of column l.line ++ (10 ∷ rest) = line_joined column s l.line l.rest t l.is l.inside in
          let left : length rest < n = omega (arith, ap length joined, length-append (line_of column l.line) (10 ∷ rest)) in
          let more : lines column n rest ≡ Some (l.rest, t) = lines_read n column l.rest t some stop l.ends l.bytes left in
          let whole : (l.line ++ (10 ∷ [])) ++ l.rest ≡ s = append_assoc l.line (10 ∷ []) l.rest ∙ sym l.is in
          ap (lines column (suc n)) joined ∙ line_read column (suc n) l.line rest some (omega arith) l.inside ∙ rw (less, more) (ap (λ (xs : List ℕ). Some (xs, t)) whole)
    ]

-- ---- ends of texts

feed_behind : (column : ℕ) (begins : Bool) (s : List ℕ) → indented_text column begins (s ++ (10 ∷ [])) ≡ indented_text column begins s ++ (10 ∷ [])
feed_behind column true [] = refl
feed_behind column false [] = refl
feed_behind column begins (c ∷ s) =
    ap (λ (xs : List ℕ). (if begins && not (c == 10) then indent column else []) ++ (c ∷ xs)) (feed_behind column (c == 10) s)
    ∙ sym (append_assoc (if begins && not (c == 10) then indent column else []) (c ∷ indented_text column (c == 10) s) (10 ∷ []))

feed_ends : (s : List ℕ) → ends_in_feed (s ++ (10 ∷ [])) ≡ true
feed_ends [] = refl
feed_ends (c ∷ []) = refl
feed_ends (c ∷ d ∷ s) = feed_ends (d ∷ s)

feed_fits : (s : List ℕ) → list_all is_literal_byte s ≡ true → list_all is_literal_byte (s ++ (10 ∷ [])) ≡ true
feed_fits [] h = refl
feed_fits (c ∷ s) h = let parts = and_parts (is_literal_byte c) (list_all is_literal_byte s) h in rw (parts.0, feed_fits s parts.1)

stripped_feed : (s : List ℕ) → ends_in_feed s ≡ false → stripped (s ++ (10 ∷ [])) ≡ s
stripped_feed [] e = refl
stripped_feed (c ∷ []) e = rw e
stripped_feed (c ∷ d ∷ s) e = rw (stripped_feed (d ∷ s) e)

onto_closed : (c : ℕ) (x y : List ℕ) → 0 < length y → closed x ≡ y → closed (onto c x) ≡ c ∷ y
onto_closed c [] y some e = absurd (omega (arith, ap length e))
onto_closed c (a ∷ x) y some e = ap (λ (xs : List ℕ). c ∷ xs) e

closed_feed : (s : List ℕ) → ends_in_one_feed s ≡ true → closed (stripped s) ≡ s
closed_feed [] e = let f : false ≡ true = e in cc
closed_feed (c ∷ []) e = let f : false ≡ true = e in cc
closed_feed (c ∷ d ∷ []) e =
    let other : (c == 10) ≡ false = grind (arith, nat_tests) in
    let feed : d ≡ 10 = grind (arith, nat_tests) in
    rw (feed, other)
closed_feed (c ∷ d ∷ e ∷ s) h = onto_closed c (stripped (d ∷ e ∷ s)) (d ∷ e ∷ s) (omega arith) (closed_feed (d ∷ e ∷ s) h)

one_feed_ends : (s : List ℕ) → ends_in_one_feed s ≡ true → ends_in_feed s ≡ true
one_feed_ends [] e = let f : false ≡ true = e in cc
one_feed_ends (c ∷ []) e = let f : false ≡ true = e in cc
one_feed_ends (c ∷ d ∷ []) e = grind (arith, nat_tests)
one_feed_ends (c ∷ d ∷ e ∷ s) h = one_feed_ends (d ∷ e ∷ s) h

-- ---- a literal scalar

header_ends : (t : Rest) → line_tail false (10 ∷ t) ≡ Some t
unfolding line_tail
header_ends t = let some : (length (10 ∷ t) == 0) ≡ false = grind (arith, nat_tests) in rw some

column_at : (column c : ℕ) (t : Rest) → nat_lt 32 c ≡ true → text_column (suc (length (indent column ++ (c ∷ t)))) (indent column ++ (c ∷ t)) ≡ Some column
column_at column c t h =
    let line : Rest = indent column ++ (c ∷ t) in
    let dark : is_space c ≡ false = grind (arith, nat_tests) in
    let long : (length (c ∷ t) == 0) ≡ false = grind (arith, nat_tests) in
    let feed : (c == 10) ≡ false = grind (arith, nat_tests) in
    let return : (c == 13) ≡ false = grind (arith, nat_tests) in
    let run : prefix_len is_space line ≡ column = run_more is_space column (c ∷ t) refl ∙ rw dark (omega arith) in
    let some : 0 < length line = omega (arith, length-append (indent column) (c ∷ t)) in
    let stands : ends_line (drop (prefix_len is_space line) line) ≡ false = rw (run, behind column (c ∷ t), long, feed, return) in
    column_here (suc (length line)) line (omega arith) some stands ∙ ap (λ (n : ℕ). Some n) run

column_found : (column c : ℕ) (s t : List ℕ) → nat_lt 32 c ≡ true → text_column (suc (length (indented_text column true (c ∷ s) ++ t))) (indented_text column true (c ∷ s) ++ t) ≡ Some column
column_found column c s t h =
    let other : (c == 10) ≡ false = grind (arith, nat_tests) in
    let joined : indented_text column true (c ∷ s) ++ t ≡ indent column ++ (c ∷ (indented_text column false s ++ t)) = rw other (append_assoc (indent column) (c ∷ indented_text column false s) t) in
    rw joined (column_at column c (indented_text column false s ++ t) h)

many_kept : (column least : ℕ) (t s u : List ℕ) → text_column (suc (length t)) t ≡ Some column → least ≤ column → lines column (suc (length t)) t ≡ Some (s, u) → literal least (124 ∷ 43 ∷ 10 ∷ t) ≡ Some (s, u)
unfolding literal
many_kept column least t s u found deep read =
    let reaches : nat_le least column ≡ true = grind (arith, nat_tests) in
    rw (header_ends t, found, reaches, read)

none_kept : (column least : ℕ) (t s u : List ℕ) → text_column (suc (length t)) t ≡ Some column → least ≤ column → lines column (suc (length t)) t ≡ Some (s, u) → literal least (124 ∷ 45 ∷ 10 ∷ t) ≡ Some (stripped s, u)
unfolding literal
none_kept column least t s u found deep read =
    let reaches : nat_le least column ≡ true = grind (arith, nat_tests) in
    rw (header_ends t, found, reaches, read)

one_kept : (column least : ℕ) (t s u : List ℕ) → text_column (suc (length t)) t ≡ Some column → least ≤ column → lines column (suc (length t)) t ≡ Some (s, u) → literal least (124 ∷ 10 ∷ t) ≡ Some (closed (stripped s), u)
unfolding literal
one_kept column least t s u found deep read =
    let reaches : nat_le least column ≡ true = grind (arith, nat_tests) in
    rw (header_ends t, found, reaches, read)

-- with line feeds at the end, and without one
feeds_read : (column least c : ℕ) (s t : List ℕ) → nat_lt 32 c ≡ true → list_all is_literal_byte (c ∷ s) ≡ true → 0 < column → least ≤ column → Stops column t → ends_in_one_feed (c ∷ s) ≡ false
    → literal least (literal_text column (c ∷ s) ++ t) ≡ Some (c ∷ s, t)
feeds_read column least c s t seen bytes some deep stop more =
    elim (cases_Bool (ends_in_feed (c ∷ s))) [
      | inl feed ↦
          let line : Rest = indented_text column true (c ∷ s) ++ t in
          rw (more, feed)
          (many_kept column least line (c ∷ s) t (column_found column c s t seen) deep (lines_read (suc (length line)) column (c ∷ s) t some stop (inr feed) bytes (omega arith)))
      | inr none ↦
          let whole : List ℕ = (c ∷ s) ++ (10 ∷ []) in
          let line : Rest = indented_text column true whole ++ t in
          let read : lines column (suc (length line)) line ≡ Some (whole, t) = lines_read (suc (length line)) column whole t some stop (inr (feed_ends (c ∷ s))) (feed_fits (c ∷ s) bytes) (omega arith) in
          let ended : (indented_text column true (c ∷ s) ++ (10 ∷ [])) ++ t ≡ line = ap (λ (xs : List ℕ). xs ++ t) (sym (feed_behind column true (c ∷ s))) in
          rw (more, none, ended) (none_kept column least line whole t (column_found column c (s ++ (10 ∷ [])) t seen) deep read ∙ rw (stripped_feed (c ∷ s) none))
    ]

pub literal_read : (column least : ℕ) (s t : List ℕ) → is_literal s ≡ true → 0 < column → least ≤ column → Stops column t → literal least (literal_text column s ++ t) ≡ Some (s, t)
literal_read column least [] t h some deep stop = let f : false ≡ true = h in cc
literal_read column least (c ∷ s) t h some deep stop =
    let parts = and_parts (nat_lt 32 c) (list_all is_literal_byte (c ∷ s)) h in
    elim (cases_Bool (ends_in_one_feed (c ∷ s))) [
      | inl one ↦
          let line : Rest = indented_text column true (c ∷ s) ++ t in
          rw one
          (one_kept column least line (c ∷ s) t (column_found column c s t parts.0) deep (lines_read (suc (length line)) column (c ∷ s) t some stop (inr (one_feed_ends (c ∷ s) one)) parts.1 (omega arith))
          ∙ rw (closed_feed (c ∷ s) one))
      | inr more ↦ feeds_read column least c s t parts.0 parts.1 some deep stop more
    ]
