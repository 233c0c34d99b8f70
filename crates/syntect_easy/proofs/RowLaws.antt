-- The lines that a reader gives, and what they are shown in.
use Rattle.std.proofs.Common.{◌≡◌, ◌≢◌, ℕ, ◌-◌, ◌<◌, suc, nat_lt, Bool, true, false, ◌==◌, List, [], ◌∷◌, ◌++◌, length, take, refl, sym, ap, ◌∙◌, append_assoc, append-nil, IsUtf8, inl, inr, arith, subst, All}
use Rattle.std.specs.Prelude.{Option, Some, None, IfSome, slice_get}
use Rattle.std.specs.Io.{StopsAt, appended_bytes}
use Rattle.std.specs.Io.BufRead.{take_through, drop_through, DropsThrough}
use Rattle.std.proofs.lemmas.Bool.{cases_Bool}
use Rattle.std.proofs.lemmas.Bool.Decides.{nat_tests}
use Rattle.std.proofs.lemmas.Str.{IsUtf8-append, IsUtf8-nil}
use Rattle.std.proofs.lemmas.List.Elements.{All-head, All-tail}
use Rattle.syntect_parsing.specs.Line.{Accepted}
use Rattle.syntect_writers.specs.Lines.{lines_of, before_lines}
use Rattle.syntect_parsing.specs.States.{standing}
use Rattle.syntect_easy.specs.Leads.{reader_of}
use Rattle.syntect_easy.specs.Pages.{Row, AreUtf8, lines_in}
use Rattle.syntect_easy.specs.Rows.{IsTextOf, can_go_on, CanFollow, GivesNext, IsLeft, RowsBegin, RowsGoOn, RowsEnd, ReadingBegins, ReadingGoesOn, ReadingFindsNoText}
use Rattle.syntect_easy.proofs.PageLaws.{map_last, shown_none, shown_last}

-- ---- lines of bytes ----

taken_off : (bs : List ℕ) → bs ≡ take_through 10 bs ++ drop_through 10 bs
taken_off [] = refl
taken_off (b ∷ bs) =
    elim (cases_Bool (b == 10)) [
      | inl e ↦ rw (e) refl
      | inr e ↦ rw (e) (ap (λ cs. b ∷ cs) (taken_off bs))
    ]

nothing_taken : (bs : List ℕ) → length (take_through 10 bs) ≡ 0 → bs ≡ []
nothing_taken [] e = refl
nothing_taken (b ∷ bs) e =
    elim (cases_Bool (b == 10)) [
      | inl f ↦ absurd (omega (arith, rw (f) at e))
      | inr f ↦ absurd (omega (arith, rw (f) at e))
    ]

-- the last of several bytes decides
goes_on_behind : (b : ℕ) (bs : List ℕ) → 0 < length bs → can_go_on (b ∷ bs) ≡ can_go_on bs
goes_on_behind b [] h = absurd (omega (arith, h))
goes_on_behind b (c ∷ bs) h = refl

taken_some : (c : ℕ) (cs : List ℕ) → 0 < length (take_through 10 (c ∷ cs))
taken_some c cs =
    elim (cases_Bool (c == 10)) [
      | inl e ↦ rw (e) (let q : 0 < suc 0 = omega arith in q)
      | inr e ↦ rw (e) (let q : 0 < suc (length (take_through 10 cs)) = omega arith in q)
    ]

-- what is left after a line that none can follow is nothing
pub taken_last : (bs : List ℕ) → CanFollow (take_through 10 bs) (drop_through 10 bs)
taken_last [] = λ e. refl
taken_last (b ∷ []) =
    elim (cases_Bool (b == 10)) [
      | inl e ↦ rw (e) (λ h. refl)
      | inr e ↦ rw (e) (λ h. refl)
    ]
taken_last (b ∷ (c ∷ cs)) =
    elim (cases_Bool (b == 10)) [
      | inl e ↦ rw (e) (λ (h : (b == 10) ≡ false). absurd (let q : true ≡ false = sym e ∙ h in cc))
      | inr e ↦ rw (e) (λ (h : can_go_on (b ∷ take_through 10 (c ∷ cs)) ≡ false). taken_last (c ∷ cs) (sym (goes_on_behind b (take_through 10 (c ∷ cs)) (taken_some c cs)) ∙ h))
    ]

-- ---- the lines of a text that begins with a line ----

not_newline : (b : ℕ) → b ≢ 10 → (b == 10) ≡ false
not_newline b h =
    elim (cases_Bool (b == 10)) [
      | inl e ↦ absurd (h (grind (arith, nat_tests)))
      | inr e ↦ e
    ]

stops_head : (b c : ℕ) (cs : List ℕ) → StopsAt (b ∷ (c ∷ cs)) 10 → b ≢ 10
stops_head b c cs s =
    let e : length (b ∷ (c ∷ cs)) - 1 ≡ suc (length cs) = omega arith in
    let t : All (λ x. x ≢ 10) (take (suc (length cs)) (b ∷ (c ∷ cs))) = subst (λ n. All (λ x. x ≢ 10) (take n (b ∷ (c ∷ cs)))) e s in
    All-head (λ x. x ≢ 10) b (take (length cs) (c ∷ cs)) t

stops_tail : (b c : ℕ) (cs : List ℕ) → StopsAt (b ∷ (c ∷ cs)) 10 → StopsAt (c ∷ cs) 10
stops_tail b c cs s =
    let e : length (b ∷ (c ∷ cs)) - 1 ≡ suc (length cs) = omega arith in
    let f : length (c ∷ cs) - 1 ≡ length cs = omega arith in
    let t : All (λ x. x ≢ 10) (take (suc (length cs)) (b ∷ (c ∷ cs))) = subst (λ n. All (λ x. x ≢ 10) (take n (b ∷ (c ∷ cs)))) e s in
    subst (λ n. All (λ x. x ≢ 10) (take n (c ∷ cs))) (sym f) (All-tail (λ x. x ≢ 10) b (take (length cs) (c ∷ cs)) t)

pub begins_with : (line rest : List ℕ) → 0 < length line → StopsAt line 10 → CanFollow line rest → lines_of (line ++ rest) ≡ line ∷ lines_of rest
unfolding lines_of
begins_with [] rest h s f = absurd (omega (arith, h))
begins_with (b ∷ []) rest h s f =
    elim (cases_Bool (b == 10)) [
      | inl e ↦ let same : 10 ≡ b = grind (arith, nat_tests) in rw (e) (ap (λ (c : ℕ). (c ∷ []) ∷ lines_of rest) same)
      | inr e ↦ let none : rest ≡ [] = f e in rw (e, none) refl
    ]
begins_with (b ∷ (c ∷ cs)) rest h s f =
    let e : (b == 10) ≡ false = not_newline b (stops_head b c cs s) in
    let some : 0 < length (c ∷ cs) = omega arith in
    rw (e) (ap (before_lines b) (begins_with (c ∷ cs) rest some (stops_tail b c cs s) f))

-- ---- the last byte of a line ----

-- ---- the last byte of a line ----

pub last_decides : (line : List ℕ) (b : ℕ) → Some b ≡ slice_get line (length line - 1) → (b == 10) ≡ can_go_on line
last_decides [] b e = cc
last_decides (a ∷ []) b e = let same : b ≡ a = cc in ap (λ c. c == 10) same
last_decides (a ∷ (c ∷ cs)) b e =
    let f : length (a ∷ (c ∷ cs)) - 1 ≡ suc (length (c ∷ cs) - 1) = omega arith in
    last_decides (c ∷ cs) b (rw (f) at e)

-- ---- what is read up to a newline ----

-- what a reader that tells its bytes gave up to a newline
taken_known : (had left : Option (List ℕ)) (line : List ℕ) → IfSome had (λ bytes. line ≡ take_through 10 bytes) → DropsThrough had left 10
    → IfSome had (λ bytes. (rest : List ℕ) × (left ≡ Some rest) × (bytes ≡ line ++ rest) × CanFollow line rest)
taken_known None left line e d = tt
taken_known (Some bytes) left line e d = rw (e) (drop_through 10 bytes, d, taken_off bytes, taken_last bytes)

none_known : (had : Option (List ℕ)) (line : List ℕ) → IfSome had (λ bytes. line ≡ take_through 10 bytes) → length line ≡ 0 → IfSome had (λ bytes. bytes ≡ [])
none_known None line e z = tt
none_known (Some bytes) line e z = nothing_taken bytes (ap length (sym e) ∙ z)

read_behind : (had : Option (List ℕ)) (none line : List ℕ) → none ≡ [] → IfSome had (λ bytes. line ≡ none ++ take_through 10 bytes) → IfSome had (λ bytes. line ≡ take_through 10 bytes)
read_behind None none line z e = tt
read_behind (Some bytes) none line z e = e ∙ ap (λ xs. xs ++ take_through 10 bytes) z

stops_behind : (none line : List ℕ) → none ≡ [] → StopsAt (appended_bytes none line) 10 → StopsAt line 10
stops_behind none line z s = rw (z) at s

given : (had left : Option (List ℕ)) (last line : List ℕ) (b : Bool) → can_go_on last ≡ true → (b ≡ true → 0 < length line) → (b ≡ false → length line ≡ 0) → StopsAt line 10
    → IfSome had (λ bytes. line ≡ take_through 10 bytes) → DropsThrough had left 10 → GivesNext had last left line b
given had left last line true g some none s e d = (some refl, s, g, taken_known had left line e d)
given had left last line false g some none s e d = λ _. none_known had line e (none refl)

-- a line that was read after nothing
pub next_read : (had left : Option (List ℕ)) (last old line : List ℕ) (n : ℕ) → can_go_on last ≡ true → old ≡ [] → length line ≡ n → StopsAt (appended_bytes old line) 10
    → IfSome had (λ bytes. line ≡ old ++ take_through 10 bytes) → DropsThrough had left 10 → GivesNext had last left line (nat_lt 0 n)
next_read had left last old line n g z k s e d =
    given had left last line (nat_lt 0 n) g (λ h. let q : 0 < length line = grind (arith, nat_tests, k) in q) (λ h. let q : length line ≡ 0 = grind (arith, nat_tests, k) in q)
    (stops_behind old line z s) (read_behind had old line z e) d

-- ---- what is known of the bytes ----

known_on : (o : Option (List ℕ)) (P Q : List ℕ → Type 0) → ((x : List ℕ) → P x → Q x) → IfSome o P → IfSome o Q
known_on None P Q f h = tt
known_on (Some x) P Q f h = f x h

at_some : (o : Option (List ℕ)) (x : List ℕ) (P : List ℕ → Type 0) → o ≡ Some x → IfSome o P → P x
at_some (Some y) x P e h = let same : y ≡ x = cc in subst P same h
at_some None x P e h = cc

-- some text is that of the reader
pub some_text : (had : Option (List ℕ)) → (text : List ℕ) × IsTextOf had text
some_text None = ([], tt)
some_text (Some x) = (x, refl)

pub all_left : (had : Option (List ℕ)) (last : List ℕ) → last ≡ [] → IsLeft had had [] last
all_left None last e = tt
all_left (Some x) last e = (x, refl, refl, λ h. absurd (let q : true ≡ false = sym (ap can_go_on e) ∙ h in cc))

pub less_left : (had left after : Option (List ℕ)) (done last bytes : List ℕ) → IsLeft had left done last → GivesNext left last after bytes true → IsLeft had after (done ++ bytes) bytes
less_left had left after done last bytes k g =
    known_on had
    (λ text. (rest : List ℕ) × (left ≡ Some rest) × (text ≡ done ++ rest) × CanFollow last rest)
    (λ text. (rest : List ℕ) × (after ≡ Some rest) × (text ≡ (done ++ bytes) ++ rest) × CanFollow bytes rest)
    (λ text s.
    let p = at_some left s.0 (λ xs. (rest : List ℕ) × (after ≡ Some rest) × (xs ≡ bytes ++ rest) × CanFollow bytes rest) s.1 g.3 in
    (p.0, p.1, s.2 ∙ ap (λ xs. done ++ xs) p.2 ∙ sym (append_assoc done bytes p.0), p.3))
    k

pub none_left : (had left after : Option (List ℕ)) (done last bytes : List ℕ) → IsLeft had left done last → GivesNext left last after bytes false → IsTextOf had done
none_left had left after done last bytes k g =
    known_on had
    (λ text. (rest : List ℕ) × (left ≡ Some rest) × (text ≡ done ++ rest) × CanFollow last rest)
    (λ text. done ≡ text)
    (λ text s.
    let end : s.0 ≡ [] = elim (cases_Bool (can_go_on last)) [
      | inl e ↦ at_some left s.0 (λ xs. xs ≡ []) s.1 (g e)
      | inr e ↦ s.3 e
    ] in
    sym (s.2 ∙ ap (λ xs. done ++ xs) end ∙ append-nil done))
    k

-- the text is what was read and what is left, which is taken to be nothing where
-- the reader doesn't tell
pub text_with_rest : (had left : Option (List ℕ)) (done last : List ℕ) → IsLeft had left done last → (rest : List ℕ) × CanFollow last rest × IsTextOf had (done ++ rest)
text_with_rest None left done last k = ([], λ _. refl, tt)
text_with_rest (Some text) left done last k = (k.0, k.3, sym k.2)

are_last : (xs : List Row) (x : Row) → AreUtf8 (lines_in xs) → IsUtf8 x.line → AreUtf8 (lines_in (xs ++ x ∷ []))
are_last [] x a u = (u, tt)
are_last (y ∷ ys) x a u = (a.0, are_last ys x a.1 u)

-- the lines so far, the next one and the lines of what follows it are those of the text
pub lines_more : (done last bytes line rest : List ℕ) (rows : List (List ℕ)) → ((rest : List ℕ) → CanFollow last rest → rows ++ lines_of rest ≡ lines_of (done ++ rest))
    → 0 < length bytes → StopsAt bytes 10 → can_go_on last ≡ true → line ≡ bytes → CanFollow bytes rest → rows ++ line ∷ lines_of rest ≡ lines_of ((done ++ bytes) ++ rest)
lines_more done last bytes line rest rows s some stops more e f =
    ap (λ xs. rows ++ xs) (ap (λ x. x ∷ lines_of rest) e ∙ sym (begins_with bytes rest some stops f))
    ∙ s (bytes ++ rest) (λ h. absurd (let q : true ≡ false = sym more ∙ h in cc))
    ∙ ap lines_of (sym (append_assoc done bytes rest))

-- ---- lines alone ----

pub reading_begins : ReadingBegins
reading_begins had last e = record { done = []; lines = []; are = λ rest _. refl; is_left = all_left had last e }

pub reading_goes_on : ReadingGoesOn
reading_goes_on had left after last bytes s g = record {
  done = s.done ++ bytes;
  lines = s.lines ++ bytes ∷ [];
  are = λ rest can.
      append_assoc s.lines (bytes ∷ []) (lines_of rest)
      ∙ lines_more s.done last bytes bytes rest s.lines s.are g.0 g.1 g.2 refl can;
  is_left = less_left had left after s.done last bytes s.is_left g;
}

pub reading_finds_no_text : ReadingFindsNoText
reading_finds_no_text had left after last bytes s g u =
    let t = text_with_rest had after (s.done ++ bytes) bytes (less_left had left after s.done last bytes s.is_left g) in (
      (s.done ++ bytes) ++ t.0,
      t.2,
      record {
        before = s.lines;
        line = bytes;
        after = lines_of t.0;
        lines = lines_more s.done last bytes bytes t.0 s.lines s.are g.0 g.1 g.2 refl t.1;
        no_text = u;
      },
    )

-- ---- rows ----

pub rows_begin : RowsBegin
rows_begin set theme syntax had last h l e = record {
  done = [];
  valid = IsUtf8-nil;
  leads = l;
  lines = λ rest _. refl;
  lines_valid = tt;
  shown = shown_none set theme syntax;
  is_left = all_left had last e;
}

pub rows_go_on : RowsGoOn
rows_go_on set definitions theme syntax had left after last bytes rows line h new pieces s l g e u =
    let row : Row = record { line = line.now; scopes = l.0; pieces = pieces.items } in
    record {
      done = s.done ++ bytes;
      valid = IsUtf8-append s.done bytes s.valid u;
      leads = rw (map_last (λ (r : Row). r.line) rows row, map_last (λ (r : Row). Accepted r.scopes) rows row) l.1.leads;
      lines = λ rest can.
          ap (λ xs. xs ++ lines_of rest) (map_last (λ (r : Row). r.line) rows row)
          ∙ append_assoc (lines_in rows) (line.now ∷ []) (lines_of rest)
          ∙ lines_more s.done last bytes line.now rest (lines_in rows) s.lines g.0 g.1 g.2 e can;
      lines_valid = are_last rows row s.lines_valid (rw (e) u);
      shown = shown_last set theme syntax rows row s.shown l.2 l.3;
      is_left = less_left had left after s.done last bytes s.is_left g;
    }

pub rows_end : RowsEnd
unfolding lines_of
rows_end set theme syntax had left after last bytes rows h s g = (
  s.done,
  none_left had left after s.done last bytes s.is_left g,
  s.valid,
  record {
    start = s.leads.start;
    after = standing (reader_of h);
    begins = s.leads.begins;
    lines = sym (append-nil (lines_in rows)) ∙ s.lines [] (λ _. refl) ∙ ap lines_of (append-nil s.done);
    run = s.leads.run;
    shown = s.shown;
  },
)
