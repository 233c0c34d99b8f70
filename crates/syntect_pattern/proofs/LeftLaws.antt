-- What a reader leaves of the text is no longer than the text.
use Rattle.std.proofs.Common.{◌≡◌, ℕ, zero, suc, ◌≤◌, [], ◌∷◌, length, take, drop, Bool, true, false, not, ◌&&◌, ◌||◌, Option, Some, None, refl, subst, arith}
use Rattle.std.specs.Prelude.{◌==◌, if◌then◌else◌, option_map, nat_le}
use Rattle.std.specs.Char.{is_digit, is_ascii_digit, is_ascii_alphabetic}
use Rattle.std.specs.List.{list_all, list_any}
use Rattle.syntect_pattern.proofs.TextLemmas.{some_same}
use Rattle.syntect_pattern.specs.Sets.{Set, negate_if}
use Rattle.syntect_pattern.specs.Trees.{Tree, repeat, atomic}
use Rattle.syntect_pattern.specs.Reading.{Text, ◌>>=◌, ◌>>◌, ◌∈◌, first, begins, is_empty, run, value, char_of, name_in, is_name_char, Passing, between, note, comment, passing_at, pass_on, pass}
use Rattle.syntect_pattern.specs.Escapes.{Escape, char, set, name, category_escape, category_names, named_set, hex_fixed, hex_escape, one_letter, escape}
use Rattle.syntect_pattern.specs.Classes.{Member, one, many, posix_form, posix_names, class_escape, member_of, member, one_only, range_end, up_to, ranged, plain_item, posix_item}
use Rattle.syntect_pattern.specs.Grammar.{Flags, Cursor, forward, passed, Quantifier, count, quantifier, sign, is_allowed, loop, looped, quantified, off_letters, flags_at, has_name, named_group, flag_group, opening}

-- the value, if there is one, is of this size at most
pub record Within {A : Type 0} (size : A → ℕ) (n : ℕ) (o : Option A) : Type 0 where
  pub fits : (a : A) → o ≡ Some a → size a ≤ n

pub within-none : {A : Type 0} (size : A → ℕ) (n : ℕ) → Within size n None
within-none size n = record { fits = λ a e. cc }

pub within-some : {A : Type 0} (size : A → ℕ) (n : ℕ) (a : A) → size a ≤ n → Within size n (Some a)
within-some size n a e = record { fits = λ b q. subst (λ x. size x ≤ n) (some_same a b q) e }

pub within-bind : {A B : Type 0} (size : B → ℕ) (n : ℕ) (o : Option A) (f : A → Option B) → ((a : A) → o ≡ Some a → Within size n (f a)) → Within size n (o >>= f)
within-bind size n None f e = within-none size n
within-bind size n (Some a) f e = e a refl

pub within-guard : {B : Type 0} (size : B → ℕ) (n : ℕ) (t : Bool) (o : Option B) → Within size n o → Within size n (t >> o)
within-guard size n true o e = e
within-guard size n false o e = within-none size n

pub within-if : {B : Type 0} (size : B → ℕ) (n : ℕ) (t : Bool) (a b : Option B) → Within size n a → Within size n b → Within size n (if t then a else b)
within-if size n true a b e f = e
within-if size n false a b e f = f

pub within-more : {A : Type 0} (size : A → ℕ) (n m : ℕ) (o : Option A) → n ≤ m → Within size n o → Within size m o
within-more size n m o h e = record { fits = λ a q. let l = e.fits a q in omega arith }

-- the rest of a pair
abbrev pub left : {A : Type 0} → A × Text → ℕ
left x = length x.1

pub drop-le : (n : ℕ) (t : Text) → length (drop n t) ≤ length t
drop-le zero t = omega arith
drop-le (suc n) [] = omega arith
drop-le (suc n) (c ∷ t) = let e = drop-le n t in omega arith

either-le : {A : Type 0} (test : Bool) (a b : A × Text) (n : ℕ) → length a.1 ≤ n → length b.1 ≤ n → length (if test then a else b).1 ≤ n
either-le true a b n e f = e
either-le false a b n e f = f

pub run-le : (test : ℕ → Bool) (t : Text) → length (run test t).1 ≤ length t
unfolding run
run-le test [] = omega arith
run-le test (c ∷ t) =
    let e = run-le test t in
    either-le (test c) (c ∷ (run test t).0, (run test t).1) ([], c ∷ t) (suc (length t)) (omega arith) (omega arith)

pub name_in-le : (t : Text) → Within left (length t) (name_in t)
unfolding name_in
name_in-le t =
    let r = run-le is_name_char t in
    let d = drop-le 1 (run is_name_char t).1 in
    within-guard left (length t) _ _ (within-guard left (length t) _ _ (within-some left (length t) _ (omega arith)))

pass_on-le : (more : Passing → Option Text) (c : ℕ) (t : Text) (found : Option Passing) → ((m : Passing) → Within length (length t) (more m))
    → Within length (suc (length t)) (pass_on more (c ∷ t) found)
pass_on-le more c t None e = within-some length (suc (length t)) (c ∷ t) (omega arith)
pass_on-le more c t (Some m) e = within-more length (length t) (suc (length t)) (more m) (omega arith) (e m)

pub pass-le : (spaced : Bool) (mode : Passing) (t : Text) → Within length (length t) (pass spaced mode t)
unfolding pass
pass-le spaced between [] = within-some length 0 [] (omega arith)
pass-le spaced note [] = within-none length 0
pass-le spaced comment [] = within-some length 0 [] (omega arith)
pass-le spaced note (c ∷ t) = within-more length (length t) (suc (length t)) _ (omega arith) (pass-le spaced (if c ∈ ")" then between else note) t)
pass-le spaced comment (c ∷ t) = within-more length (length t) (suc (length t)) _ (omega arith) (pass-le spaced (if c ∈ "\n" then between else comment) t)
pass-le spaced between (c ∷ t) = pass_on-le (λ m. pass spaced m t) c t (passing_at spaced c t) (λ m. pass-le spaced m t)

-- a value of the same text
keep : {A Y : Type 0} (n : ℕ) (o : Option A) (f : A → Y) (rest : Text) → length rest ≤ n → Within left n (o >>= λ a. Some (f a, rest))
keep n None f rest e = within-none left n
keep n (Some a) f rest e = within-some left n (f a, rest) e

-- -- Escapes

category_escape-le : (upper : Bool) (t : Text) → Within left (length t) (category_escape upper t)
unfolding category_escape
category_escape-le upper t =
    let n = if begins "{^" t then 2 else 1 in
    let r = run-le (λ c. not (c ∈ "}")) (drop n t) in
    let d = drop-le n t in
    let d' = drop-le 1 (run (λ c. not (c ∈ "}")) (drop n t)).1 in
    within-guard left (length t) (begins "{" t) _ (within-guard left (length t) (not (upper && begins "{^" t)) _ (within-guard left (length t) (begins "}" (run (λ c. not (c ∈ "}")) (drop n t)).1) _
    (keep {Y = Escape} (length t) (named_set category_names (run (λ c. not (c ∈ "}")) (drop n t)).0) (λ found. set (negate_if (upper || begins "{^" t) found))
    (drop 1 (run (λ c. not (c ∈ "}")) (drop n t)).1) (omega arith))))

hex_fixed-le : (n : ℕ) (t : Text) → Within left (length t) (hex_fixed n t)
unfolding hex_fixed
hex_fixed-le n t =
    within-guard left (length t) (length (take n t) == n && list_all (λ c. is_digit c 16) (take n t)) (char_of (value 16 (take n t)) >>= λ c. Some (char c, drop n t))
    (within-bind {A = ℕ} left (length t) (char_of (value 16 (take n t))) (λ c. Some (char c, drop n t)) (λ c q. within-some left (length t) (char c, drop n t) (drop-le n t)))

hex_escape-le : (t : Text) → Within left (length t) (hex_escape t)
unfolding hex_escape
hex_escape-le t =
    let r = run-le (λ c. is_digit c 16) (drop 1 t) in
    let d = drop-le 1 t in
    let d' = drop-le 1 (run (λ c. is_digit c 16) (drop 1 t)).1 in
    within-if left (length t) (not (begins "{" t)) _ _ (hex_fixed-le 2 t)
    (within-guard left (length t) (nat_le 1 (length (run (λ c. is_digit c 16) (drop 1 t)).0) && nat_le (length (run (λ c. is_digit c 16) (drop 1 t)).0) 8) _ (within-guard left (length t) (begins "}" (run (λ c. is_digit c 16) (drop 1 t)).1) _ (keep {Y = Escape} (length t) (char_of (value 16 (run (λ c. is_digit c 16) (drop 1 t)).0)) char (drop 1 (run (λ c. is_digit c 16) (drop 1 t)).1) (omega arith))))

name_escape-le : (rest : Text) → Within left (length rest) (begins "<" rest >> (name_in (drop 1 rest) >>= λ (found, after). Some (name found, after)))
name_escape-le rest =
    let d = drop-le 1 rest in
    within-guard left (length rest) _ _ (within-bind left (length rest) _ _
    (λ a q. let e = (name_in-le (drop 1 rest)).fits a q in within-some left (length rest) _ (omega arith)))

pub escape-le : (t : Text) → Within left (length t) (escape t)
unfolding escape
escape-le t =
    let d = drop-le 1 t in
    within-bind left (length t) (first t) _ (λ c q.
    within-more left (length (drop 1 t)) (length t) _ d
    (within-if left (length (drop 1 t)) _ _ _ (hex_escape-le (drop 1 t))
    (within-if left (length (drop 1 t)) _ _ _ (hex_fixed-le 4 (drop 1 t))
    (within-if left (length (drop 1 t)) _ _ _ (category_escape-le (c ∈ "P") (drop 1 t))
    (within-if left (length (drop 1 t)) _ _ _ (name_escape-le (drop 1 t))
    (keep {Y = Escape} (length (drop 1 t)) (one_letter c) (λ e. e) (drop 1 t) (omega arith)))))))

-- -- Classes

abbrev pub left_2 : {A B : Type 0} → A × B × Text → ℕ
left_2 x = length x.2

-- what follows the n-th character, where there is one
posix_form-le : (t : Text) → Within left_2 (length (drop 1 t)) (posix_form t)
unfolding posix_form
posix_form-le [] = within-none left_2 0
posix_form-le (c ∷ t) =
    let n = if begins "[:^" (c ∷ t) then 3 else 2 in
    let r = run-le is_ascii_alphabetic (drop n (c ∷ t)) in
    let d = drop_more (begins "[:^" (c ∷ t)) c t in
    let d' = drop-le 2 (run is_ascii_alphabetic (drop n (c ∷ t))).1 in
    let inside = run is_ascii_alphabetic (drop n (c ∷ t)) in
    within-guard left_2 (length t) _ _ (within-guard left_2 (length t) _ _
    (within-guard left_2 (length t) (begins ":]" inside.1) (Some (begins "[:^" (c ∷ t), inside.0, drop 2 inside.1)) (within-some left_2 (length t) (begins "[:^" (c ∷ t), inside.0, drop 2 inside.1) (omega arith))))
  where
    drop_more : (b : Bool) (c : ℕ) (t : Text) → length (drop (if b then 3 else 2) (c ∷ t)) ≤ length t
    drop_more true c t = drop-le 2 t
    drop_more false c t = drop-le 1 t

class_escape-le : (t : Text) → Within left (length t) (class_escape t)
unfolding class_escape
class_escape-le t =
    let d = drop-le 1 t in
    within-if left (length t) _ _ _ (within-some left (length t) _ d)
    (within-bind left (length t) _ _ (λ a q. keep {Y = Member} (length t) (member_of a.0) (λ m. m) a.1 ((escape-le t).fits a q)))

member-le : (t : Text) → Within left (length (drop 1 t)) (member t)
unfolding member
member-le t =
    within-bind left (length (drop 1 t)) (first t) (λ c. if c ∈ "\\" then class_escape (drop 1 t) else Some (one c, drop 1 t)) (λ c q.
    within-if left (length (drop 1 t)) (c ∈ "\\") (class_escape (drop 1 t)) (Some (one c, drop 1 t)) (class_escape-le (drop 1 t))
    (within-some left (length (drop 1 t)) (one c, drop 1 t) (omega arith)))

one_only-le : (n : ℕ) (found : Member × Text) → left found ≤ n → Within left n (one_only found)
one_only-le n (one c, rest) e = within-some left n _ e
one_only-le n (many a, rest) e = within-none left n

range_end-le : (t : Text) → Within left (length t) (range_end t)
unfolding range_end
range_end-le t =
    let d = drop-le 1 t in
    let d' = drop-le 1 (drop 1 t) in
    within-guard left (length t) _ _ (within-guard left (length t) _ _ (within-bind left (length t) _ _
    (λ a q. let e = (member-le (drop 1 t)).fits a q in one_only-le (length t) a (omega arith))))

up_to-le : (fold : Bool) (low : ℕ) (rest : Text) (n : ℕ) (found : Option (ℕ × Text)) → length rest ≤ n → Within left (length rest) found → Within left n (up_to fold low rest found)
up_to-le fold low rest n None h e = within-some left n _ h
up_to-le fold low rest n (Some (high, after)) h e =
    let l = e.fits (high, after) refl in within-guard left n _ _ (within-some left n _ (omega arith))

ranged-le : (fold : Bool) (n : ℕ) (found : Member × Text) → left found ≤ n → Within left n (ranged fold found)
ranged-le fold n (many a, rest) e = within-some left n _ e
ranged-le fold n (one c, rest) e = up_to-le fold c rest n (range_end rest) e (range_end-le rest)

pub plain_item-le : (fold : Bool) (t : Text) → Within left (length (drop 1 t)) (plain_item fold t)
unfolding plain_item
plain_item-le fold t = within-bind left (length (drop 1 t)) _ _ (λ a q. ranged-le fold (length (drop 1 t)) a ((member-le t).fits a q))

pub posix_item-le : (fold : Bool) (t : Text) → Within left (length (drop 1 t)) (posix_item fold t)
unfolding posix_item
posix_item-le fold t =
    within-bind left (length (drop 1 t)) _ _ (λ a q.
    within-bind {A = Set} left (length (drop 1 t)) (named_set posix_names a.1) (λ found. Some (negate_if a.0 found, a.2))
    (λ b u. within-some left (length (drop 1 t)) (negate_if a.0 b, a.2) ((posix_form-le t).fits a q)))

-- -- Quantifiers and groups

abbrev pub left_place : {A : Type 0} → A × Cursor → ℕ
left_place x = length x.1.text

abbrev pub place_size : Cursor → ℕ
place_size p = length p.text

pub passed-le : (p : Cursor) → Within place_size (length p.text) (passed p)
unfolding passed
passed-le p = by_text (pass p.flags.spaced between p.text) (pass-le p.flags.spaced between p.text)
  where
    by_text : (found : Option Text) → Within length (length p.text) found → Within place_size (length p.text) (option_map (λ t. record p { text = t }) found)
    by_text None e = within-none place_size (length p.text)
    by_text (Some t) e = within-some place_size (length p.text) (record p { text = t }) (e.fits t refl)

count-le : (t : Text) → Within left (length t) (count t)
unfolding count
count-le t =
    let low = run is_ascii_digit (drop 1 t) in
    let comma = begins "," low.1 in
    let high = run is_ascii_digit (drop 1 low.1) in
    let d1 = drop-le 1 t in
    let r1 = run-le is_ascii_digit (drop 1 t) in
    let d2 = drop-le 1 low.1 in
    let r2 = run-le is_ascii_digit (drop 1 low.1) in
    let close = if comma then high.1 else low.1 in
    let m = pick comma high.1 low.1 (length t) (omega arith) (omega arith) in
    let d3 = drop-le 1 close in
    within-guard left (length t) (begins "{" t) _ (within-guard left (length t) (begins "}" close) _
    (within-guard left (length t) (not (is_empty low.0) || (comma && not (is_empty high.0))) _ (within-some left (length t) _ (omega arith))))
  where
    pick : (b : Bool) (x y : Text) (n : ℕ) → length x ≤ n → length y ≤ n → length (if b then x else y) ≤ n
    pick true x y n e f = e
    pick false x y n e f = f

sign-le : (least : ℕ) (most : Option ℕ) (t : Text) → Within left (length t) (sign least most t)
sign-le least most t = within-some left (length t) _ (drop-le 1 t)

quantifier-le : (t : Text) → Within left (length t) (quantifier t)
unfolding quantifier
quantifier-le t =
    within-if left (length t) (begins "*" t) _ _ (sign-le 0 None t)
    (within-if left (length t) (begins "+" t) _ _ (sign-le 1 None t)
    (within-if left (length t) (begins "?" t) _ _ (sign-le 0 (Some 1) t) (count-le t)))

loop-le : (q : Quantifier) (a : Tree) (t : Text) → length (loop q a t).1 ≤ length t
unfolding loop
loop-le q a t =
    let d = drop-le 1 t in
    let n = length t in
    either-le (begins "?" t) (repeat false q.least q.most a, drop 1 t) (if q.short && begins "+" t then (atomic (repeat true q.least q.most a), drop 1 t) else (repeat true q.least q.most a, t)) n d
    (either-le (q.short && begins "+" t) (atomic (repeat true q.least q.most a), drop 1 t) (repeat true q.least q.most a, t) n d (omega arith))

looped-le : (a : Tree) (p : Cursor) (found : Option (Quantifier × Text)) → Within left (length p.text) found → Within left_place (length p.text) (looped a p found)
looped-le a p None e = within-some left_place (length p.text) (a, p) (omega arith)
looped-le a p (Some (q, rest)) e =
    let l = e.fits (q, rest) refl in
    let m = loop-le q a rest in
    within-guard left_place (length p.text) (is_allowed q.least q.most) _ (within-some left_place (length p.text) _ (omega arith))

pub quantified-le : (a : Tree) (p : Cursor) → Within left_place (length p.text) (quantified a p)
unfolding quantified
quantified-le a p =
    within-bind left_place (length p.text) (passed p) _ (λ here q.
    within-more left_place (length here.text) (length p.text) _ ((passed-le p).fits here q)
    (looped-le a here (quantifier here.text) (quantifier-le here.text)))

off_letters-le : (t : Text) → Within left (length t) (off_letters t)
unfolding off_letters
off_letters-le t =
    let d = drop-le 1 t in
    let r = run-le (λ c. c ∈ "imx") (drop 1 t) in
    within-if left (length t) (not (begins "-" t)) _ _ (within-some left (length t) _ (omega arith))
    (within-guard left (length t) (not (is_empty (run (λ c. c ∈ "imx") (drop 1 t)).0)) _ (within-some left (length t) _ (omega arith)))

flags_at-le : (flags : Flags) (t : Text) → Within left (length t) (flags_at flags t)
unfolding flags_at
flags_at-le flags t =
    let r = run-le (λ c. c ∈ "imx") t in
    within-bind left (length t) (off_letters (run (λ c. c ∈ "imx") t).1) _ (λ a q.
    let e = (off_letters-le (run (λ c. c ∈ "imx") t).1).fits a q in
    within-guard left (length t) (not (is_empty (run (λ c. c ∈ "imx") t).0 && is_empty a.0)) _ (within-some left (length t) _ (omega arith)))

named_group-le : (p : Cursor) → Within left_place (length p.text) (named_group p)
unfolding named_group
named_group-le p =
    within-bind left_place (length p.text) (name_in p.text) _ (λ a q.
    let e = (name_in-le p.text).fits a q in
    within-guard left_place (length p.text) (not (list_any (has_name a.0) p.names)) _ (within-some left_place (length p.text) _ e))

flag_group-le : (p : Cursor) → Within left_place (length p.text) (flag_group p)
unfolding flag_group
flag_group-le p =
    within-bind left_place (length p.text) (flags_at p.flags p.text) _ (λ a q.
    let e = (flags_at-le p.flags p.text).fits a q in
    let d = drop-le 1 a.1 in
    within-guard left_place (length p.text) (begins ":" a.1 || begins ")" a.1) _ (within-some left_place (length p.text) _ (omega arith)))

pub opening-le : (p : Cursor) → Within left_place (length p.text) (opening p)
unfolding opening
opening-le p =
    let t = p.text in
    let n = length p.text in
    let d1 = drop-le 1 t in
    let d2 = drop-le 2 t in
    let d3 = drop-le 3 t in
    within-if left_place n (not (begins "?" t)) _ _ (within-some left_place n _ (omega arith))
    (within-if left_place n (begins "?:" t) _ _ (within-some left_place n _ d2)
    (within-if left_place n (begins "?>" t) _ _ (within-some left_place n _ d2)
    (within-if left_place n (begins "?=" t) _ _ (within-some left_place n _ d2)
    (within-if left_place n (begins "?!" t) _ _ (within-some left_place n _ d2)
    (within-if left_place n (begins "?<=" t) _ _ (within-some left_place n _ d3)
    (within-if left_place n (begins "?<!" t) _ _ (within-some left_place n _ d3)
    (within-if left_place n (begins "?P<" t) _ _ (within-more left_place (length (drop 3 t)) n _ d3 (named_group-le (forward 3 p)))
    (within-if left_place n (begins "?<" t) _ _ (within-more left_place (length (drop 2 t)) n _ d2 (named_group-le (forward 2 p)))
    (within-more left_place (length (drop 1 t)) n _ d1 (flag_group-le (forward 1 p)))))))))))
