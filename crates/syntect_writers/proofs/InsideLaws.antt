-- Names in comments, byte by byte.
use Rattle.std.proofs.Common.{◌≡◌, ℕ, ◌+◌, ◌/◌, ◌%◌, ◌<◌, ◌≤◌, ◌==◌, nat_lt, Bool, true, false, not, List, [], ◌∷◌, ◌++◌, length, refl, sym, ◌∙◌, ap, inl, inr, arith, append_assoc}
use Rattle.std.specs.Prelude.{encode_utf8, encode_utf8_all, chars, IsUtf8}
use Rattle.std.specs.List.{list_all}
use Rattle.std.proofs.lemmas.Bool.{cases_Bool}
use Rattle.std.proofs.lemmas.Bool.Decides.{nat_tests}
use Rattle.std.proofs.lemmas.List.Folds.{list_all-append}
use Rattle.std.proofs.lemmas.Str.{encode_ascii, encodes-chars, length-encode, len_utf8_bounds}
use lib.Utf8.{encode}
use Rattle.syntect_writers.specs.Comment.{is_left_out, ends_comment, told_name, can_be_told, after_comment, stays_inside}
use Rattle.syntect_writers.proofs.CommentLaws.{both, none, told_whole}

-- a byte is another one than this ASCII byte
abbrev pub other : ℕ → ℕ → Bool
other t b = not (b == t)

far : (t k x : ℕ) → t < 128 → 128 ≤ k → other t (k + x) ≡ true
far t k x l h = grind (arith, nat_tests)

-- the bytes of a character are other ones where the character is
pub other_bytes : (t c : ℕ) → t < 128 → (c == t) ≡ false → list_all (other t) (encode_utf8 c) ≡ true
unfolding encode
other_bytes t c l o =
    elim (cases_Bool (nat_lt c 128)) [
      | inl e1 ↦ rw (e1, o) refl
      | inr e2 ↦
          elim (cases_Bool (nat_lt c 2048)) [
            | inl e3 ↦ rw (e2, e3, far t 192 (c / 64) l (omega arith), far t 128 (c % 64) l (omega arith)) refl
            | inr e4 ↦
                elim (cases_Bool (nat_lt c 65536)) [
                  | inl e5 ↦ rw (e2, e4, e5, far t 224 (c / 4096) l (omega arith), far t 128 (c / 64 % 64) l (omega arith), far t 128 (c % 64) l (omega arith)) refl
                  | inr e6 ↦ rw (e2, e4, e6, far t 240 (c / 262144) l (omega arith), far t 128 (c / 4096 % 64) l (omega arith), far t 128 (c / 64 % 64) l (omega arith), far t 128 (c % 64) l (omega arith)) refl
                ]
          ]
    ]

-- bytes among which no star is are passed over
pub past_bytes : (bs more : List ℕ) → list_all (other 42) bs ≡ true → after_comment (bs ++ more) ≡ after_comment more
past_bytes [] more e = refl
past_bytes (b ∷ bs) more e =
    let p = both (not (b == 42)) _ e in
    past_one (bs ++ more) (none (b == 42) p.0) ∙ past_bytes bs more p.1
  where
    past_one : (more : List ℕ) → (b == 42) ≡ false → after_comment (b ∷ more) ≡ after_comment more
    past_one [] o = refl
    past_one (d ∷ ds) o = rw o refl

-- a star before bytes that don't begin with a slash is passed over
past_star : (bs more : List ℕ) → 0 < length bs → list_all (other 47) bs ≡ true → after_comment (42 ∷ (bs ++ more)) ≡ after_comment (bs ++ more)
past_star [] more h e = absurd (omega arith)
past_star (b ∷ bs) more h e =
    let p = both (not (b == 47)) _ e in
    rw (none (b == 47) p.0) refl

pub quote_passed : (more : List ℕ) → after_comment (34 ∷ more) ≡ after_comment more
quote_passed more = past_bytes (34 ∷ []) more refl

long : (c : ℕ) → 0 < length (encode_utf8 c)
long c = omega (arith, length-encode c, (len_utf8_bounds c).0)

-- a name of which all can be kept is passed over, where a quote follows
pub past_name : (cs more : List ℕ) → can_be_told cs ≡ true → after_comment (encode_utf8_all cs ++ (34 ∷ more)) ≡ after_comment more
past_name [] more e = quote_passed more
past_name (c ∷ cs) more e =
    let p = both (not (is_left_out c)) _ e in
    let q = both (not (ends_comment c cs)) _ p.1 in
    ap after_comment (append_assoc (encode_utf8 c) (encode_utf8_all cs) (34 ∷ more))
    ∙ elim (cases_Bool (c == 42)) [
      | inl e1 ↦
          let is : c ≡ 42 = grind (arith, nat_tests, e1) in
          ap (λ (n : ℕ). after_comment (encode_utf8 n ++ (encode_utf8_all cs ++ (34 ∷ more)))) is
          ∙ ap (λ (l : List ℕ). after_comment (l ++ (encode_utf8_all cs ++ (34 ∷ more)))) (encode_ascii 42 (omega arith))
          ∙ star_passed cs more (ap (λ (n : ℕ). not (ends_comment n cs)) (sym is) ∙ q.0)
      | inr e2 ↦ past_bytes (encode_utf8 c) (encode_utf8_all cs ++ (34 ∷ more)) (other_bytes 42 c (omega arith) e2)
    ]
    ∙ past_name cs more q.1
  where
    star_passed : (cs more : List ℕ) → not (ends_comment 42 cs) ≡ true → after_comment (42 ∷ (encode_utf8_all cs ++ (34 ∷ more))) ≡ after_comment (encode_utf8_all cs ++ (34 ∷ more))
    star_passed [] more q = refl
    star_passed (d ∷ ds) more q =
        ap (λ (l : List ℕ). after_comment (42 ∷ l)) (append_assoc (encode_utf8 d) (encode_utf8_all ds) (34 ∷ more))
        ∙ past_star (encode_utf8 d) (encode_utf8_all ds ++ (34 ∷ more)) (long d) (other_bytes 47 d (omega arith) (none (d == 47) q))
        ∙ ap after_comment (sym (append_assoc (encode_utf8 d) (encode_utf8_all ds) (34 ∷ more)))

-- what is kept of a name has no `<`
pub name_inside : (cs : List ℕ) → can_be_told cs ≡ true → list_all stays_inside (encode_utf8_all cs) ≡ true
name_inside [] e = refl
name_inside (c ∷ cs) e =
    let p = both (not (is_left_out c)) _ e in
    let q = both (not (ends_comment c cs)) _ p.1 in
    let o : (c == 60) ≡ false = not_left c (none (is_left_out c) p.0) in
    list_all-append stays_inside (encode_utf8 c) (encode_utf8_all cs) ∙ rw (other_bytes 60 c (omega arith) o) (name_inside cs q.1)
  where
    not_left : (c : ℕ) → is_left_out c ≡ false → (c == 60) ≡ false
    not_left c e = elim (cases_Bool (c == 60)) [ inl e1 ↦ absurd (let n : true ≡ false = (rw (e1) at e) in cc) | inr e2 ↦ e2 ]

-- a name in which nothing has to be left out is kept as it is
pub name_stays : (name : List ℕ) → IsUtf8 name → can_be_told (chars name) ≡ true → told_name name ≡ name
name_stays name u e = ap encode_utf8_all (told_whole (chars name) e) ∙ encodes-chars name u
