-- The repository grows at its end, and numbers stay.
use Rattle.std.proofs.Common.{◌≡◌, ◌==◌, ℕ, zero, suc, ◌+◌, ◌≤◌, ◌<◌, Bool, true, false, List, [], ◌∷◌, ◌++◌, length, take, refl, ap, sym, ◌∙◌, ◌||◌, arith, Option, Some, None, is_some, if◌then◌else◌, not, length-append, append_assoc, map, drop, get_or, Bor}
use Rattle.std.specs.Option.{option_map_or, option_map, unwrap_or}
use Rattle.std.specs.Prelude.{Result, Ok, Err, IsErrOf}
use Rattle.std.specs.List.{position_from, list_any, join_with_byte}
use Rattle.std.proofs.lemmas.List.Folds.{list_any-append}
use Rattle.std.proofs.lemmas.Slice.Eq.{bytes_eq-Decides}
use Rattle.std.proofs.lemmas.Bool.Decides.{nat_tests, same_from_decides, Decides-like}
use Rattle.std.proofs.lemmas.List.{append-nil, drop_all, length-take, take-append-le, take_more}
use Rattle.std.specs.Str.{bytes_eq}
use Rattle.syntect_scope.specs.declared.repository.ParseScopeError.TheVariants.{TooLong, TooManyAtoms}
use Rattle.std.specs.Prelude.{nat_lt}
use Rattle.syntect_scope.specs.Repository.{with_atom, with_atoms, number_in, place_in, scope_in, with_scopes, atom_texts, is_too_long, first_refusal, atom_text, scope_text, IsDistinct, IsRepository}

same : (n : ℕ) → (n == n) ≡ true
same n = grind (arith, nat_tests)

pub bytes_eq_same : (t : List ℕ) → bytes_eq t t ≡ true
bytes_eq_same [] = refl
bytes_eq_same (x ∷ t) = rw (same x) (bytes_eq_same t)

module _ {X : Type 0} (p : X → Bool) where
  stays_if : (b : Bool) (i : ℕ) (o o' : Option ℕ) → (is_some o ≡ true → o' ≡ o) → is_some (if b then Some i else o) ≡ true → (if b then Some i else o') ≡ (if b then Some i else o)
  stays_if true i o o' h e = refl
  stays_if false i o o' h e = h e

  -- what was found is found
  pub found_stays : (xs ys : List X) (i : ℕ) → is_some (position_from p i xs) ≡ true → position_from p i (xs ++ ys) ≡ position_from p i xs
  found_stays [] ys i e = cc
  found_stays (x ∷ xs) ys i e = stays_if (p x) i (position_from p (i + 1) xs) (position_from p (i + 1) (xs ++ ys)) (found_stays xs ys (i + 1)) e

  last_if : (b : Bool) (i n : ℕ) (o o' : Option ℕ) → (is_some o ≡ false → o' ≡ Some n) → is_some (if b then Some i else o) ≡ false → (if b then Some i else o') ≡ Some n
  last_if true i n o o' h e = cc
  last_if false i n o o' h e = h e

  -- what wasn't, is found last
  pub found_last : (xs : List X) (y : X) (i : ℕ) → p y ≡ true → is_some (position_from p i xs) ≡ false → position_from p i (xs ++ y ∷ []) ≡ Some (length xs + i)
  found_last [] y i t e = let z : 0 + i ≡ i = omega arith in rw (t, z) refl
  found_last (x ∷ xs) y i t e =
      let z : suc (length xs) + i ≡ length xs + (i + 1) = omega arith in
      rw z (last_if (p x) i (length xs + (i + 1)) (position_from p (i + 1) xs) (position_from p (i + 1) (xs ++ y ∷ [])) (found_last xs y (i + 1) t) e)

has_if : (r : List (List ℕ)) (t : List ℕ) (b : Bool) → is_some (position_from (bytes_eq t) 0 r) ≡ b → is_some (position_from (bytes_eq t) 0 (if b then r else r ++ t ∷ [])) ≡ true
has_if r t true e = e
has_if r t false e = ap is_some (found_last (bytes_eq t) r t 0 (bytes_eq_same t) e)

pub has_atom : (r : List (List ℕ)) (t : List ℕ) → is_some (position_from (bytes_eq t) 0 (with_atom r t)) ≡ true
has_atom r t = has_if r t (is_some (position_from (bytes_eq t) 0 r)) refl

more_if : (r : List (List ℕ)) (t : List ℕ) (b : Bool) → (rest : List (List ℕ)) × ((if b then r else r ++ t ∷ []) ≡ r ++ rest)
more_if r t true = ([], sym (append-nil r))
more_if r t false = (t ∷ [], refl)

-- texts are added at the end
pub grows : (r ts : List (List ℕ)) → (rest : List (List ℕ)) × (with_atoms r ts ≡ r ++ rest)
grows r [] = ([], sym (append-nil r))
grows r (t ∷ ts) =
    let one : (rest : List (List ℕ)) × (with_atom r t ≡ r ++ rest) = more_if r t (is_some (position_from (bytes_eq t) 0 r)) in
    let all : (rest : List (List ℕ)) × (with_atoms (with_atom r t) ts ≡ with_atom r t ++ rest) = grows (with_atom r t) ts in
    (one.0 ++ all.0, all.1 ∙ ap (λ (l : List (List ℕ)). l ++ all.0) one.1 ∙ append_assoc r one.0 all.0)

pub number_stays : (r ts : List (List ℕ)) (t : List ℕ) → number_in (with_atoms (with_atom r t) ts) t ≡ number_in (with_atom r t) t
number_stays r ts t =
    let g : (rest : List (List ℕ)) × (with_atoms (with_atom r t) ts ≡ with_atom r t ++ rest) = grows (with_atom r t) ts in
    ap (λ (l : List (List ℕ)). number_in l t) g.1 ∙ ap (λ o. option_map_or (λ i. i + 1) o 0) (found_stays (bytes_eq t) (with_atom r t) g.0 0 (has_atom r t))

pub length_grows : (r ts : List (List ℕ)) → length r ≤ length (with_atoms r ts)
length_grows r ts = omega (arith, ap length (grows r ts).1, length-append r (grows r ts).0)

pub number_last : (r : List (List ℕ)) (t : List ℕ) → None ≡ position_from (bytes_eq t) 0 r → (with_atom r t ≡ r ++ t ∷ []) × (length r + 1 ≡ number_in (r ++ t ∷ []) t)
number_last r t e =
    let n : is_some (position_from (bytes_eq t) 0 r) ≡ false = ap is_some (sym e) in
    let z : length r + 0 ≡ length r = omega arith in
    (rw n refl, rw (found_last (bytes_eq t) r t 0 (bytes_eq_same t) n, z) refl)

-- a place is within the list
place_within : {X : Type 0} (p : X → Bool) (xs : List X) (i k : ℕ) → position_from p i xs ≡ Some k → k < length xs + i
place_within p [] i k e = cc
place_within p (x ∷ xs) i k e = by_test (p x) (place_within p xs (i + 1) k) e
  where
    by_test : (b : Bool) → (position_from p (i + 1) xs ≡ Some k → k < length xs + (i + 1)) → (if b then Some i else position_from p (i + 1) xs) ≡ Some k → k < suc (length xs) + i
    by_test true rest h = let same : i ≡ k = cc in omega (arith, same)
    by_test false rest h = omega (arith, rest h)

-- a text that gets the next number is new
pub absent_new : (r : List (List ℕ)) (t : List ℕ) (held n : ℕ) (o : Option ℕ) → held ≡ length r → o ≡ option_map (λ i. i + 1) (place_in r t) → n ≡ unwrap_or o (held + 1) → n ≡ held + 1 → (n ≡ length r + 1) × (place_in r t ≡ None)
absent_new r t held n o h p e k = (omega (arith, h, k), by_place (place_in r t) refl (e ∙ ap (λ (x : Option ℕ). unwrap_or x (held + 1)) p))
  where
    by_place : (x : Option ℕ) → place_in r t ≡ x → n ≡ unwrap_or (option_map (λ i. i + 1) x) (held + 1) → x ≡ None
    by_place None a f = refl
    by_place (Some i) a f = absurd (omega (arith, place_within (bytes_eq t) r 0 i a, f, k, h))

-- what the rest of the texts adds, when one of them was added
pub texts_step : (self texts : List (List ℕ)) (i : ℕ) (d : List ℕ) → i < length texts → with_atoms self (drop i texts) ≡ with_atoms (with_atom self (get_or texts i d)) (drop (i + 1) texts)
texts_step self [] i d l = absurd (omega arith)
texts_step self (t ∷ texts) zero d l = refl
texts_step self (t ∷ texts) (suc i) d l = let z : suc i + 1 ≡ suc (i + 1) = omega arith in rw z (texts_step self texts i d (omega arith))

pub numbers_step : (all : List (List ℕ)) (scope : List ℕ) (texts : List (List ℕ)) (i : ℕ) (d : List ℕ) → i < length texts
    → scope ++ map (number_in all) (drop i texts) ≡ (scope ++ number_in all (get_or texts i d) ∷ []) ++ map (number_in all) (drop (i + 1) texts)
numbers_step all scope [] i d l = absurd (omega arith)
numbers_step all scope (t ∷ texts) zero d l = sym (append_assoc scope _ _)
numbers_step all scope (t ∷ texts) (suc i) d l = let z : suc i + 1 ≡ suc (i + 1) = omega arith in rw z (numbers_step all scope texts i d (omega arith))

pub front_stays : (old self ts : List (List ℕ)) → take (length old) self ≡ old → take (length old) (with_atoms self ts) ≡ old
front_stays old self ts e =
    let g : (rest : List (List ℕ)) × (with_atoms self ts ≡ self ++ rest) = grows self ts in
    let n : length old ≤ length self = omega (arith, ap length (sym e), length-take {A = List ℕ} (length old) self) in
    rw (g.1, take-append-le (length old) self g.0 n) e

-- one more number is given
pub given_more : (d : List ℕ) {new : List (List ℕ)} {n : ℕ} (old self : List (List ℕ)) (scope : List ℕ) (texts : List (List ℕ)) (i : ℕ) → i < length texts
    → new ≡ with_atom self (get_or texts i d) → n ≡ number_in new (get_or texts i d) → with_atoms self (drop i texts) ≡ with_atoms old texts
    → scope ++ map (number_in (with_atoms old texts)) (drop i texts) ≡ map (number_in (with_atoms old texts)) texts
    → (scope ++ n ∷ []) ++ map (number_in (with_atoms old texts)) (drop (i + 1) texts) ≡ map (number_in (with_atoms old texts)) texts
given_more d {new} {n} old self scope texts i l e f a g =
    let nn : n ≡ number_in (with_atoms old texts) (get_or texts i d) =
    f ∙ ap (λ (k : List (List ℕ)). number_in k (get_or texts i d)) e ∙ sym (number_stays self (drop (i + 1) texts) (get_or texts i d))
    ∙ ap (λ (k : List (List ℕ)). number_in k (get_or texts i d)) (sym (texts_step self texts i d l) ∙ a) in
    rw nn (sym (numbers_step (with_atoms old texts) scope texts i d l) ∙ g)

pub too_many_grows : (d : List ℕ) (old self texts : List (List ℕ)) (i : ℕ) → i < length texts → with_atoms self (drop i texts) ≡ with_atoms old texts
    → 65534 < length (with_atom self (get_or texts i d)) → 65534 < length (with_atoms old texts)
too_many_grows d old self texts i l a m = omega (arith, ap length (sym (texts_step self texts i d l) ∙ a), length_grows (with_atom self (get_or texts i d)) (drop (i + 1) texts))

-- none is left
pub all_given : (old self texts : List (List ℕ)) (i : ℕ) (scope : List ℕ) → i ≡ length texts → with_atoms self (drop i texts) ≡ with_atoms old texts
    → scope ++ map (number_in (with_atoms old texts)) (drop i texts) ≡ map (number_in (with_atoms old texts)) texts → (self ≡ with_atoms old texts) × (scope ≡ map (number_in self) texts)
all_given old self texts i scope e a g =
    let rest : drop i texts ≡ [] = drop_all i texts (omega (arith, e)) in
    let whole : self ≡ with_atoms old texts = ap (λ (ts : List (List ℕ)). with_atoms self ts) (sym rest) ∙ a in
    let numbers : scope ≡ map (number_in (with_atoms old texts)) texts = sym (append-nil scope) ∙ ap (λ (ts : List (List ℕ)). scope ++ map (number_in (with_atoms old texts)) ts) (sym rest) ∙ g in
    (whole, numbers ∙ ap (λ (r : List (List ℕ)). map (number_in r) texts) (sym whole))

-- ---- each text stands once ----

bytes_eq_sym : (a b : List ℕ) → bytes_eq a b ≡ bytes_eq b a
bytes_eq_sym a b = same_from_decides (bytes_eq a b) (bytes_eq b a) (bytes_eq-Decides a b) (Decides-like (bytes_eq b a) (λ (e : b ≡ a). sym e) (λ (e : a ≡ b). sym e) (bytes_eq-Decides b a))

or_both : (a b : Bool) → (a || b) ≡ false → (a ≡ false) × (b ≡ false)
or_both false b h = (refl, h)
or_both true b h = cc

or_neither : (a b : Bool) → a ≡ false → b ≡ false → (a || b) ≡ false
or_neither a b e f = rw (e, f) refl

unless : (b : Bool) (i : ℕ) (o : Option ℕ) → (b ≡ false) × (o ≡ None) → (if b then Some i else o) ≡ None
unless b i o h = rw (h.0, h.1) refl

pub absent_place : (t : List ℕ) (xs : List (List ℕ)) (i : ℕ) → list_any (bytes_eq t) xs ≡ false → position_from (bytes_eq t) i xs ≡ None
absent_place t [] i h = refl
absent_place t (x ∷ xs) i h =
    let both : (bytes_eq t x ≡ false) × (list_any (bytes_eq t) xs ≡ false) = or_both _ _ h in
    unless (bytes_eq t x) i (position_from (bytes_eq t) (i + 1) xs) (both.0, absent_place t xs (i + 1) both.1)

neither : (b : Bool) (i : ℕ) (o : Option ℕ) → (if b then Some i else o) ≡ None → (b ≡ false) × (o ≡ None)
neither true i o h = cc
neither false i o h = (refl, h)

pub place_absent : (t : List ℕ) (xs : List (List ℕ)) (i : ℕ) → position_from (bytes_eq t) i xs ≡ None → list_any (bytes_eq t) xs ≡ false
place_absent t [] i h = refl
place_absent t (x ∷ xs) i h =
    let both : (bytes_eq t x ≡ false) × (position_from (bytes_eq t) (i + 1) xs ≡ None) = neither (bytes_eq t x) i (position_from (bytes_eq t) (i + 1) xs) h in
    or_neither _ _ both.0 (place_absent t xs (i + 1) both.1)

any_last : (x t : List ℕ) (xs : List (List ℕ)) → list_any (bytes_eq x) (xs ++ t ∷ []) ≡ (list_any (bytes_eq x) xs || (bytes_eq x t || false))
any_last x t xs = list_any-append (bytes_eq x) xs (t ∷ [])

-- a new text at the end
pub distinct_more : (xs : List (List ℕ)) (t : List ℕ) → IsDistinct xs → list_any (bytes_eq t) xs ≡ false → IsDistinct (xs ++ t ∷ [])
distinct_more [] t d h = (refl, tt)
distinct_more (x ∷ xs) t d h =
    let both : (bytes_eq t x ≡ false) × (list_any (bytes_eq t) xs ≡ false) = or_both _ _ h in
    (any_last x t xs ∙ or_neither _ _ d.0 (or_neither _ _ (bytes_eq_sym x t ∙ both.0) refl), distinct_more xs t d.1 both.1)

pub distinct_front : (xs ys : List (List ℕ)) → IsDistinct (xs ++ ys) → IsDistinct xs
distinct_front [] ys d = tt
distinct_front (x ∷ xs) ys d = ((or_both _ _ (sym (list_any-append (bytes_eq x) xs ys) ∙ d.0)).0, distinct_front xs ys d.1)

pub distinct_last : (xs : List (List ℕ)) (t : List ℕ) → IsDistinct (xs ++ t ∷ []) → list_any (bytes_eq t) xs ≡ false
distinct_last [] t d = refl
distinct_last (x ∷ xs) t d =
    let e : (bytes_eq x t || false) ≡ false = (or_both _ _ (sym (any_last x t xs) ∙ d.0)).1 in
    or_neither _ _ (bytes_eq_sym t x ∙ (or_both _ _ e).0) (distinct_last xs t d.1)

-- ---- numbers by text ----

place_other : (q t : List ℕ) (xs : List (List ℕ)) (i : ℕ) → bytes_eq q t ≡ false → position_from (bytes_eq q) i (xs ++ t ∷ []) ≡ position_from (bytes_eq q) i xs
place_other q t [] i h = rw h refl
place_other q t (x ∷ xs) i h = ap (λ (o : Option ℕ). if bytes_eq q x then Some i else o) (place_other q t xs (i + 1) h)

-- the numbers of all texts, once a new one has been put last
pub numbers_more : (xs : List (List ℕ)) (t : List ℕ) (n : ℕ) → n ≡ length xs + 1 → place_in xs t ≡ None → (q : List ℕ) → (if bytes_eq t q then Some n else option_map (λ i. i + 1) (place_in xs q)) ≡ option_map (λ i. i + 1) (place_in (xs ++ t ∷ []) q)
numbers_more xs t n e h q = by_case (bytes_eq t q) refl
  where
    by_case : (b : Bool) → bytes_eq t q ≡ b → (if b then Some n else option_map (λ i. i + 1) (place_in xs q)) ≡ option_map (λ i. i + 1) (place_in (xs ++ t ∷ []) q)
    by_case true s =
        let same_text : t ≡ q = (bytes_eq-Decides t q).0 s in
        let none : is_some (position_from (bytes_eq t) 0 xs) ≡ false = ap is_some h in
        let last : place_in (xs ++ t ∷ []) t ≡ Some (length xs + 0) = found_last (bytes_eq t) xs t 0 (bytes_eq_same t) none in
        let z : n ≡ length xs + 0 + 1 = omega (arith, e) in
        ap Some z ∙ ap (λ (o : Option ℕ). option_map (λ i. i + 1) o) (sym last) ∙ ap (λ (u : List ℕ). option_map (λ i. i + 1) (place_in (xs ++ t ∷ []) u)) same_text
    by_case false s = ap (λ (o : Option ℕ). option_map (λ i. i + 1) o) (sym (place_other q t xs 0 (bytes_eq_sym q t ∙ s)))

-- the numbers of all texts, once that of a new one has been taken back
pub numbers_back : (xs : List (List ℕ)) (t : List ℕ) (n : ℕ) → place_in xs t ≡ None → (q : List ℕ)
    → (if bytes_eq t q then None else if bytes_eq t q then Some n else option_map (λ i. i + 1) (place_in xs q)) ≡ option_map (λ i. i + 1) (place_in xs q)
numbers_back xs t n h q = by_case (bytes_eq t q) refl
  where
    by_case : (b : Bool) → bytes_eq t q ≡ b → (if b then None else if b then Some n else option_map (λ i. i + 1) (place_in xs q)) ≡ option_map (λ i. i + 1) (place_in xs q)
    by_case true s = ap (λ (o : Option ℕ). option_map (λ i. i + 1) o) (sym h) ∙ ap (λ (u : List ℕ). option_map (λ i. i + 1) (place_in xs u)) ((bytes_eq-Decides t q).0 s)
    by_case false s = refl

-- the numbers of all texts, once the last one has been taken back
pub numbers_less : (xs : List (List ℕ)) (t : List ℕ) → IsDistinct (xs ++ t ∷ []) → (q : List ℕ) → (if bytes_eq t q then None else option_map (λ i. i + 1) (place_in (xs ++ t ∷ []) q)) ≡ option_map (λ i. i + 1) (place_in xs q)
numbers_less xs t d q = by_case (bytes_eq t q) refl
  where
    by_case : (b : Bool) → bytes_eq t q ≡ b → (if b then None else option_map (λ i. i + 1) (place_in (xs ++ t ∷ []) q)) ≡ option_map (λ i. i + 1) (place_in xs q)
    by_case true s =
        let same_text : t ≡ q = (bytes_eq-Decides t q).0 s in
        ap (λ (o : Option ℕ). option_map (λ i. i + 1) o) (sym (absent_place t xs 0 (distinct_last xs t d)))
        ∙ ap (λ (u : List ℕ). option_map (λ i. i + 1) (place_in xs u)) same_text
    by_case false s = ap (λ (o : Option ℕ). option_map (λ i. i + 1) o) (place_other q t xs 0 (bytes_eq_sym q t ∙ s))

-- ---- the text of a scope ----

-- one more part
pub join_last : (x : List ℕ) (xs : List (List ℕ)) (y : List ℕ) → join_with_byte 46 (x ∷ xs ++ y ∷ []) ≡ join_with_byte 46 (x ∷ xs) ++ (46 ∷ y)
join_last x [] y = refl
join_last x (z ∷ xs) y = ap (λ (l : List ℕ). x ++ (46 ∷ l)) (join_last z xs y) ∙ sym (append_assoc x (46 ∷ join_with_byte 46 (z ∷ xs)) (46 ∷ y))

pub whole_more : (r : List (List ℕ)) (t : List ℕ) → IsRepository r → place_in r t ≡ None → length r < 65534 → IsRepository (r ++ t ∷ [])
whole_more r t whole absent room = record {
  limit = omega (arith, length-append r (t ∷ []), room);
  distinct = distinct_more r t whole.distinct (place_absent t r 0 absent);
}

-- one more atom
pub text_last : (repo : List (List ℕ)) (atoms : List ℕ) (i : ℕ) (d : ℕ) → i < length atoms → 0 < i
    → scope_text repo (take (i + 1) atoms) ≡ scope_text repo (take i atoms) ++ (46 ∷ atom_text repo (get_or atoms i d))
text_last repo [] i d l p = absurd (omega arith)
text_last repo (a ∷ atoms) zero d l p = absurd (omega arith)
text_last repo (a ∷ atoms) (suc i) d l p =
    let z : suc i + 1 ≡ suc (i + 1) = omega arith in
    rw z (ap (λ (xs : List (List ℕ)). join_with_byte 46 (atom_text repo a ∷ xs)) (map_last i atoms (omega arith)) ∙ join_last (atom_text repo a) (map (atom_text repo) (take i atoms)) (atom_text repo (get_or atoms i d)))
  where
    map_last : (i : ℕ) (xs : List ℕ) → i < length xs → map (atom_text repo) (take (i + 1) xs) ≡ map (atom_text repo) (take i xs) ++ atom_text repo (get_or xs i d) ∷ []
    map_last i [] l = absurd (omega arith)
    map_last zero (x ∷ xs) l = refl
    map_last (suc i) (x ∷ xs) l = let z : suc i + 1 ≡ suc (i + 1) = omega arith in rw z (ap (λ (ys : List (List ℕ)). atom_text repo x ∷ ys) (map_last i xs (omega arith)))

pub text_first : (repo : List (List ℕ)) (atoms : List ℕ) (i d : ℕ) → i < length atoms → i ≤ 0
    → scope_text repo (take (i + 1) atoms) ≡ scope_text repo (take i atoms) ++ atom_text repo (get_or atoms i d)
text_first repo [] i d l z = absurd (omega arith)
text_first repo (a ∷ atoms) zero d l z = refl
text_first repo (a ∷ atoms) (suc i) d l z = absurd (omega arith)

-- ---- several scopes ----

holds_if : (b : Bool) (i : ℕ) (o o' : Option ℕ) → (is_some o ≡ true → is_some o' ≡ true) → is_some (if b then Some i else o) ≡ true → is_some (if b then Some i else o') ≡ true
holds_if true i o o' h e = refl
holds_if false i o o' h e = h e

-- a text that is there is there among more
pub place_more : (t : List ℕ) (xs ys : List (List ℕ)) → is_some (place_in xs t) ≡ true → place_in (xs ++ ys) t ≡ place_in xs t
place_more t xs ys h = found_stays (bytes_eq t) xs ys 0 h

-- each text that was taken up is there
number_more : (r ts rest : List (List ℕ)) (t : List ℕ) → number_in (with_atoms (with_atom r t) ts ++ rest) t ≡ number_in (with_atoms (with_atom r t) ts) t
number_more r ts rest t =
    let g : (more : List (List ℕ)) × (with_atoms (with_atom r t) ts ≡ with_atom r t ++ more) = grows (with_atom r t) ts in
    let here : place_in (with_atom r t ++ g.0) t ≡ place_in (with_atom r t) t = place_more t (with_atom r t) g.0 (has_atom r t) in
    let some : is_some (place_in (with_atoms (with_atom r t) ts) t) ≡ true = ap (λ (l : List (List ℕ)). is_some (place_in l t)) g.1 ∙ ap is_some here ∙ has_atom r t in
    ap (λ (o : Option ℕ). option_map_or (λ i. i + 1) o 0) (place_more t (with_atoms (with_atom r t) ts) rest some)

pub numbers_stay : (r ts rest : List (List ℕ)) → map (number_in (with_atoms r ts ++ rest)) ts ≡ map (number_in (with_atoms r ts)) ts
numbers_stay r [] rest = refl
numbers_stay r (t ∷ ts) rest = go (number_more r ts rest t) (numbers_stay (with_atom r t) ts rest)
  where
    go : {x y : ℕ} {xs ys : List ℕ} → x ≡ y → xs ≡ ys → x ∷ xs ≡ y ∷ ys
    go e f = rw (e, f) refl

pub scopes_grow : (r texts : List (List ℕ)) → (rest : List (List ℕ)) × (with_scopes r texts ≡ r ++ rest)
scopes_grow r [] = ([], sym (append-nil r))
scopes_grow r (t ∷ texts) =
    let one : (rest : List (List ℕ)) × (with_atoms r (atom_texts t) ≡ r ++ rest) = grows r (atom_texts t) in
    let all : (rest : List (List ℕ)) × (with_scopes (with_atoms r (atom_texts t)) texts ≡ with_atoms r (atom_texts t) ++ rest) = scopes_grow (with_atoms r (atom_texts t)) texts in
    (one.0 ++ all.0, all.1 ∙ ap (λ (l : List (List ℕ)). l ++ all.0) one.1 ∙ append_assoc r one.0 all.0)

-- a scope keeps its numbers while others are read
pub scope_stays : (r texts : List (List ℕ)) (t : List ℕ) → scope_in (with_scopes (with_atoms r (atom_texts t)) texts) t ≡ scope_in (with_atoms r (atom_texts t)) t
scope_stays r texts t =
    let g : (rest : List (List ℕ)) × (with_scopes (with_atoms r (atom_texts t)) texts ≡ with_atoms r (atom_texts t) ++ rest) = scopes_grow (with_atoms r (atom_texts t)) texts in
    ap (λ (l : List (List ℕ)). scope_in l t) g.1 ∙ numbers_stay r (atom_texts t) g.0

-- ---- reading scopes one after another ----

pub scopes_step : (self : List (List ℕ)) (parts : List (Bor (List ℕ))) (i : ℕ) (d : Bor (List ℕ)) → i < length parts
    → with_scopes self (map (λ x. x.now) (drop i parts)) ≡ with_scopes (with_atoms self (atom_texts (get_or parts i d).now)) (map (λ x. x.now) (drop (i + 1) parts))
scopes_step self [] i d l = absurd (omega arith)
scopes_step self (p ∷ parts) zero d l = refl
scopes_step self (p ∷ parts) (suc i) d l = let z : suc i + 1 ≡ suc (i + 1) = omega arith in rw z (scopes_step self parts i d (omega arith))

scopes_given_step : (all : List (List ℕ)) (scopes : List (List ℕ)) (parts : List (Bor (List ℕ))) (i : ℕ) (d : Bor (List ℕ)) → i < length parts
    → scopes ++ map (scope_in all) (map (λ x. x.now) (drop i parts)) ≡ (scopes ++ scope_in all (get_or parts i d).now ∷ []) ++ map (scope_in all) (map (λ x. x.now) (drop (i + 1) parts))
scopes_given_step all scopes [] i d l = absurd (omega arith)
scopes_given_step all scopes (p ∷ parts) zero d l = sym (append_assoc scopes _ _)
scopes_given_step all scopes (p ∷ parts) (suc i) d l = let z : suc i + 1 ≡ suc (i + 1) = omega arith in rw z (scopes_given_step all scopes parts i d (omega arith))

-- one more scope is given
pub scope_more : (d : Bor (List ℕ)) {new : List (List ℕ)} {s : List ℕ} (old self : List (List ℕ)) (scopes : List (List ℕ)) (parts : List (Bor (List ℕ))) (i : ℕ) → i < length parts
    → new ≡ with_atoms self (atom_texts (get_or parts i d).now) → s ≡ scope_in new (get_or parts i d).now
    → with_scopes self (map (λ x. x.now) (drop i parts)) ≡ with_scopes old (map (λ x. x.now) parts)
    → scopes ++ map (scope_in (with_scopes old (map (λ x. x.now) parts))) (map (λ x. x.now) (drop i parts)) ≡ map (scope_in (with_scopes old (map (λ x. x.now) parts))) (map (λ x. x.now) parts)
    → (scopes ++ s ∷ []) ++ map (scope_in (with_scopes old (map (λ x. x.now) parts))) (map (λ x. x.now) (drop (i + 1) parts)) ≡ map (scope_in (with_scopes old (map (λ x. x.now) parts))) (map (λ x. x.now) parts)
scope_more d {new} {s} old self scopes parts i l e f a g =
    let ss : s ≡ scope_in (with_scopes old (map (λ x. x.now) parts)) (get_or parts i d).now =
    f ∙ ap (λ (k : List (List ℕ)). scope_in k (get_or parts i d).now) e ∙ sym (scope_stays self (map (λ x. x.now) (drop (i + 1) parts)) (get_or parts i d).now)
    ∙ ap (λ (k : List (List ℕ)). scope_in k (get_or parts i d).now) (sym (scopes_step self parts i d l) ∙ a) in
    rw ss (sym (scopes_given_step (with_scopes old (map (λ x. x.now) parts)) scopes parts i d l) ∙ g)

pub long_test : (text : List ℕ) → 8 < length (atom_texts text) → is_too_long text ≡ true
long_test text h = grind (arith, nat_tests)

pub short_test : (text : List ℕ) → (8 < length (atom_texts text) → ⊥) → is_too_long text ≡ false
short_test text h = grind (arith, nat_tests)

pub kept_more : (d : Bor (List ℕ)) {new : List (List ℕ)} (old self : List (List ℕ)) (parts : List (Bor (List ℕ))) (i : ℕ) → new ≡ with_atoms self (atom_texts (get_or parts i d).now)
    → take (length old) self ≡ old → take (length old) new ≡ old
kept_more d {new} old self parts i e h = rw e (front_stays old self (atom_texts (get_or parts i d).now) h)

-- ---- how many atoms there would be ----

found_if : (b : Bool) (i : ℕ) (o : Option ℕ) (c : Bool) → is_some o ≡ c → is_some (if b then Some i else o) ≡ (b || c)
found_if true i o c e = refl
found_if false i o c e = e

found_any : {X : Type 0} (p : X → Bool) (xs : List X) (i : ℕ) → is_some (position_from p i xs) ≡ list_any p xs
found_any p [] i = refl
found_any p (x ∷ xs) i = found_if (p x) i (position_from p (i + 1) xs) (list_any p xs) (found_any p xs (i + 1))

or_turned : (a b c : Bool) → ((a || (b || false)) || c) ≡ (a || (b || c))
or_turned true b c = refl
or_turned false true c = refl
or_turned false false c = refl

or_none : (a : Bool) → (a || false) ≡ a
or_none true = refl
or_none false = refl

or_some : (a : Bool) → (a || true) ≡ true
or_some true = refl
or_some false = refl

-- a text is among those that stand there and the one that was taken up
either : (t u : List ℕ) (r : List (List ℕ)) (b : Bool) → is_some (place_in r u) ≡ b → is_some (place_in (if b then r else r ++ u ∷ []) t) ≡ (is_some (place_in r t) || (bytes_eq t u || false))
either t u r false e = found_any (bytes_eq t) (r ++ u ∷ []) 0 ∙ list_any-append (bytes_eq t) r (u ∷ []) ∙ ap (λ (b : Bool). b || (bytes_eq t u || false)) (sym (found_any (bytes_eq t) r 0))
either t u r true e = by_case (bytes_eq t u) refl
  where
    by_case : (c : Bool) → bytes_eq t u ≡ c → is_some (place_in r t) ≡ (is_some (place_in r t) || (c || false))
    by_case true s = ap (λ (x : List ℕ). is_some (place_in r x)) ((bytes_eq-Decides t u).0 s) ∙ e ∙ sym (or_some (is_some (place_in r t)))
    by_case false s = sym (or_none (is_some (place_in r t)))

stands : (t : List ℕ) (r ts : List (List ℕ)) → is_some (place_in (with_atoms r ts) t) ≡ (is_some (place_in r t) || list_any (bytes_eq t) ts)
stands t r [] = sym (or_none (is_some (place_in r t)))
stands t r (u ∷ ts) =
    stands t (with_atom r u) ts
    ∙ ap (λ (b : Bool). b || list_any (bytes_eq t) ts) (either t u r (is_some (place_in r u)) refl)
    ∙ or_turned (is_some (place_in r t)) (bytes_eq t u) (list_any (bytes_eq t) ts)

place_known : (o p : Option ℕ) (b : Bool) → o ≡ option_map (λ i. i + 1) p → is_some o ≡ b → is_some p ≡ b
place_known o None b e h = sym (ap is_some e) ∙ h
place_known o (Some i) b e h = sym (ap is_some e) ∙ h

pub lacks_new : (r ts : List (List ℕ)) (t : List ℕ) (o : Option ℕ) → o ≡ option_map (λ i. i + 1) (place_in r t) → is_some o ≡ false → list_any (bytes_eq t) ts ≡ is_some (place_in (with_atoms r ts) t)
lacks_new r ts t o e h = sym (stands t r ts ∙ ap (λ (b : Bool). b || list_any (bytes_eq t) ts) (place_known o (place_in r t) false e h))

pub lacks_known : (r ts : List (List ℕ)) (t : List ℕ) (o : Option ℕ) → o ≡ option_map (λ i. i + 1) (place_in r t) → is_some o ≡ true → false ≡ not (is_some (place_in (with_atoms r ts) t))
lacks_known r ts t o e h = sym (ap not (stands t r ts ∙ ap (λ (b : Bool). b || list_any (bytes_eq t) ts) (place_known o (place_in r t) true e h)))

-- one more text
with_last : (r xs : List (List ℕ)) (t : List ℕ) → with_atoms r (xs ++ t ∷ []) ≡ with_atom (with_atoms r xs) t
with_last r [] t = refl
with_last r (x ∷ xs) t = with_last (with_atom r x) xs t

grown_if : (r : List (List ℕ)) (t : List ℕ) (b : Bool) → length (if b then r else r ++ t ∷ []) ≡ length r + (if not b then 1 else 0)
grown_if r t true = omega arith
grown_if r t false = length-append r (t ∷ [])

grown_by : (d : List ℕ) (r texts : List (List ℕ)) (i : ℕ) → i < length texts
    → length (with_atoms r (take (i + 1) texts)) ≡ length (with_atoms r (take i texts)) + (if not (is_some (place_in (with_atoms r (take i texts)) (get_or texts i d))) then 1 else 0)
grown_by d r texts i l =
    let all = with_atoms r (take i texts) in
    let t = get_or texts i d in
    ap (λ (ts : List (List ℕ)). length (with_atoms r ts)) (take_more texts i d l)
    ∙ ap length (with_last r (take i texts) t)
    ∙ grown_if all t (is_some (place_in all t))

pub counted_more : (d : List ℕ) (r texts : List (List ℕ)) (i before count later : ℕ) (part : List ℕ) (lacks : Bool) → i < length texts → part ≡ get_or texts i d → before ≡ i
    → count ≡ length (with_atoms r (take i texts)) → lacks ≡ not (is_some (place_in (with_atoms r (take before texts)) part)) → later ≡ count + (if lacks then 1 else 0) → later ≡ length (with_atoms r (take (i + 1) texts))
counted_more d r texts i before count later part lacks l p b n k e =
    e ∙ ap (λ (m : ℕ). m + (if lacks then 1 else 0)) n
    ∙ ap (λ (c : Bool). length (with_atoms r (take i texts)) + (if c then 1 else 0)) (k ∙ ap (λ (m : ℕ). not (is_some (place_in (with_atoms r (take m texts)) part))) b ∙ ap (λ (t : List ℕ). not (is_some (place_in (with_atoms r (take i texts)) t))) p)
    ∙ sym (grown_by d r texts i l)

-- each text is one more at most
one_most : (r : List (List ℕ)) (t : List ℕ) (b : Bool) → length (if b then r else r ++ t ∷ []) ≤ length r + 1
one_most r t true = omega arith
one_most r t false = omega (arith, length-append r (t ∷ []))

pub grown_most : (r ts : List (List ℕ)) → length (with_atoms r ts) ≤ length r + length ts
grown_most r [] = omega arith
grown_most r (t ∷ ts) = omega (arith, grown_most (with_atom r t) ts, one_most r t (is_some (place_in r t)))

-- ---- refusals of calls that answer different things ----

abbrev error_or : {T E : Type 0} → E → Result T E → E
error_or d (Ok x) = d
error_or d (Err e) = e

abbrev err_in : {E : Type 0} (U : Type 0) → E → Result U E
err_in U e = Err e

pub carried : {T E : Type 0} (U : Type 0) {a b : E} → IsErrOf {T = T} {E = E} (Err a) b → IsErrOf {T = U} {E = E} (Err a) b
carried U {a} e = ap (err_in U) (ap (error_or a) e)

pub no_error : {T E : Type 0} {x : T} {e : E} → Ok x ≡ Err e → ⊥
no_error h = cc

-- ---- the first refusal ----

-- one of the texts is taken up
refusal_step : (d : Bor (List ℕ)) (self : List (List ℕ)) (parts : List (Bor (List ℕ))) (i : ℕ) → i < length parts → is_too_long (get_or parts i d).now ≡ false → length (with_atoms self (atom_texts (get_or parts i d).now)) ≤ 65534
    → first_refusal self (map (λ x. x.now) (drop i parts)) ≡ first_refusal (with_atoms self (atom_texts (get_or parts i d).now)) (map (λ x. x.now) (drop (i + 1) parts))
refusal_step d self [] i l s r = absurd (omega arith)
refusal_step d self (p ∷ parts) zero l s r = let k : nat_lt 65534 (length (with_atoms self (atom_texts p.now))) ≡ false = grind (arith, nat_tests) in rw (s, k) refl
refusal_step d self (p ∷ parts) (suc i) l s r = let z : suc i + 1 ≡ suc (i + 1) = omega arith in rw z (refusal_step d self parts i (omega arith) s r)

pub refusal_more : (d : Bor (List ℕ)) {new : List (List ℕ)} (self old : List (List ℕ)) (parts : List (Bor (List ℕ))) (i : ℕ) → i < length parts → new ≡ with_atoms self (atom_texts (get_or parts i d).now) → IsRepository new
    → (8 < length (atom_texts (get_or parts i d).now) → ⊥) → first_refusal self (map (λ x. x.now) (drop i parts)) ≡ first_refusal old (map (λ x. x.now) parts)
    → first_refusal new (map (λ x. x.now) (drop (i + 1) parts)) ≡ first_refusal old (map (λ x. x.now) parts)
refusal_more d {new} self old parts i l e whole short h =
    let limit : length (with_atoms self (atom_texts (get_or parts i d).now)) ≤ 65534 = omega (arith, ap length e, whole.limit) in
    ap (λ (r : List (List ℕ)). first_refusal r (map (λ x. x.now) (drop (i + 1) parts))) e ∙ sym (refusal_step d self parts i l (short_test (get_or parts i d).now short) limit) ∙ h

pub refused_long : (d : Bor (List ℕ)) (self : List (List ℕ)) (parts : List (Bor (List ℕ))) (i : ℕ) → i < length parts → 8 < length (atom_texts (get_or parts i d).now)
    → first_refusal self (map (λ x. x.now) (drop i parts)) ≡ Some TooLong
refused_long d self [] i l h = absurd (omega arith)
refused_long d self (p ∷ parts) zero l h = rw (long_test p.now h) refl
refused_long d self (p ∷ parts) (suc i) l h = refused_long d self parts i (omega arith) h

pub refused_full : (d : Bor (List ℕ)) (self : List (List ℕ)) (parts : List (Bor (List ℕ))) (i : ℕ) → i < length parts → (8 < length (atom_texts (get_or parts i d).now) → ⊥) → 65534 < length (with_atoms self (atom_texts (get_or parts i d).now))
    → first_refusal self (map (λ x. x.now) (drop i parts)) ≡ Some TooManyAtoms
refused_full d self [] i l s h = absurd (omega arith)
refused_full d self (p ∷ parts) zero l s h = let k : nat_lt 65534 (length (with_atoms self (atom_texts p.now))) ≡ true = grind (arith, nat_tests) in rw (short_test p.now s, k) refl
refused_full d self (p ∷ parts) (suc i) l s h = refused_full d self parts i (omega arith) s h

-- ---- a text among those before it ----

any_at : (p : List ℕ → Bool) (xs : List (List ℕ)) (i : ℕ) (d : List ℕ) → i < length xs → list_any p xs ≡ false → p (get_or xs i d) ≡ false
any_at p [] i d h e = absurd (omega arith)
any_at p (x ∷ xs) zero d h e = (or_both _ _ e).0
any_at p (x ∷ xs) (suc i) d h e = any_at p xs i d (omega arith) (or_both _ _ e).1

none_before : (xs : List (List ℕ)) (i : ℕ) (d : List ℕ) → IsDistinct xs → i < length xs → list_any (bytes_eq (get_or xs i d)) (take i xs) ≡ false
none_before [] i d k h = absurd (omega arith)
none_before (x ∷ xs) zero d k h = refl
none_before (x ∷ xs) (suc i) d k h = or_neither _ _ (bytes_eq_sym (get_or xs i d) x ∙ any_at (bytes_eq x) xs i d (omega arith) k.0) (none_before xs i d k.1 (omega arith))

-- a text is not among those before it
pub new_at : (xs : List (List ℕ)) (i : ℕ) (d : List ℕ) → IsDistinct xs → i < length xs → place_in (take i xs) (get_or xs i d) ≡ None
new_at xs i d k h = absent_place (get_or xs i d) (take i xs) 0 (none_before xs i d k h)
