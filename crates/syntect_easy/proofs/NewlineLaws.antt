-- The first line of bytes.
use Rattle.std.proofs.Common.{◌≡◌, ℕ, suc, ◌+◌, ◌==◌, nat_lt, cond, Bool, true, false, List, [], ◌∷◌, ◌++◌, length, take, Option, Some, None, refl, ap, subst, ◌∙◌, arith}
use Rattle.std.specs.Prelude.{IfSome}
use Rattle.std.specs.List.{position, position_or_len}
use Rattle.std.specs.Io.{StartsWith}
use Rattle.std.specs.Io.BufRead.{take_through}
use Rattle.std.specs.Io.Buffered.{reader_buffer, reader_capacity, reader_inner, reader_remaining}
use Rattle.std.specs.Io.KnownBytes.{Keeps, prepend_known}
use Rattle.std.specs.declared.io.buffered.BufReader.{BufReader}
use Rattle.std.proofs.lemmas.Bool.Decides.{nat_tests}
use Rattle.std.proofs.lemmas.List.{take_all}

through_place : (xs : List ℕ) → take_through 10 xs ≡ take (suc (position_or_len (λ b. b == 10) xs)) xs
through_place [] = refl
through_place (x ∷ xs) = by (x == 10) refl (through_place xs)
  where
    by : (b : Bool) → (x == 10) ≡ b → take_through 10 xs ≡ take (suc (position_or_len (λ b. b == 10) xs)) xs → take_through 10 (x ∷ xs) ≡ take (suc (position_or_len (λ b. b == 10) (x ∷ xs))) (x ∷ xs)
    by true e rest = rw e refl
    by false e rest =
        let next : suc (position_or_len (λ b. b == 10) xs) ≡ 1 + position_or_len (λ b. b == 10) xs = omega arith in
        rw e (ap (λ l. x ∷ l) (rest ∙ ap (λ n. take n xs) next))

found_at : (b : Bool) (n at : ℕ) → cond b (Some n) None ≡ Some at → n ≡ at
found_at true n at e = cc
found_at false n at e = cc

not_found : (b : Bool) (n : ℕ) → cond b (Some n) None ≡ None → b ≡ false
not_found true n e = cc
not_found false n e = refl

pub through_found : (xs : List ℕ) (at : ℕ) → position (λ b. b == 10) xs ≡ Some at → take_through 10 xs ≡ take (at + 1) xs
through_found xs at e =
    let same : position_or_len (λ b. b == 10) xs ≡ at = found_at _ _ at e in
    let next : suc (position_or_len (λ b. b == 10) xs) ≡ at + 1 = omega (arith, same) in
    through_place xs ∙ ap (λ n. take n xs) next

pub through_none : (xs : List ℕ) → position (λ b. b == 10) xs ≡ None → take_through 10 xs ≡ xs
through_none xs e =
    let past : nat_lt (position_or_len (λ b. b == 10) xs) (length xs) ≡ false = not_found _ _ e in
    through_place xs ∙ take_all (suc (position_or_len (λ b. b == 10) xs)) xs (grind (arith, nat_tests, past))

same_first : (x y : ℕ) (xs ys : List ℕ) → x ∷ xs ≡ y ∷ ys → x ≡ y
same_first x y xs ys e = cc

same_rest : (x y : ℕ) (xs ys : List ℕ) → x ∷ xs ≡ y ∷ ys → xs ≡ ys
same_rest x y xs ys e = cc

-- the first line of a front is a front of the first line
pub front_through : (xs front : List ℕ) → StartsWith xs front → StartsWith (take_through 10 xs) (take_through 10 front)
front_through xs [] e = refl
front_through [] (y ∷ ys) e = cc
front_through (x ∷ xs) (y ∷ ys) e =
    subst (λ z. StartsWith (take_through 10 (x ∷ xs)) (take_through 10 (z ∷ ys))) (same_first x y _ _ e) (by (x == 10) refl (front_through xs ys (same_rest x y _ _ e)))
  where
    by : (b : Bool) → (x == 10) ≡ b → StartsWith (take_through 10 xs) (take_through 10 ys) → StartsWith (take_through 10 (x ∷ xs)) (take_through 10 (x ∷ ys))
    by true f h = rw f refl
    by false f h = rw f (ap (λ l. x ∷ l) h)

-- a front of a front is one
pub front_of_front : (xs front more : List ℕ) → StartsWith xs front → StartsWith front more → StartsWith xs more
front_of_front xs front [] e f = refl
front_of_front xs [] (z ∷ zs) e f = cc
front_of_front [] (y ∷ ys) (z ∷ zs) e f = cc
front_of_front (x ∷ xs) (y ∷ ys) (z ∷ zs) e f =
    let h : x ≡ z = same_first x y _ _ e ∙ same_first y z _ _ f in
    let t : take (length zs) xs ≡ zs = front_of_front xs ys zs (same_rest x y _ _ e) (same_rest y z _ _ f) in
    ap (λ k. k ∷ take (length zs) xs) h ∙ ap (λ l. z ∷ l) t

-- where the bytes that are left are known, and these are a front of them, a front of their first
-- line is one of the first line that is left
pub front_known : (left : Option (List ℕ)) (bytes line : List ℕ) → IfSome left (λ xs. StartsWith xs bytes) → StartsWith (take_through 10 bytes) line → IfSome left (λ xs. StartsWith (take_through 10 xs) line)
front_known None bytes line h e = tt
front_known (Some xs) bytes line h e = front_of_front (take_through 10 xs) (take_through 10 bytes) line (front_through xs bytes h) e

-- ---- the buffer of a reader ----

starts_appended : (front rest : List ℕ) → StartsWith (front ++ rest) front
starts_appended [] rest = refl
starts_appended (x ∷ front) rest = ap (λ xs. x ∷ xs) (starts_appended front rest)

-- what stands in the buffer is a front of what is left
pub front_ahead : {F A : Type 0} (remaining : F → Option (List ℕ)) (r : BufReader F A) (had : Option (List ℕ)) → Keeps had (reader_remaining remaining r) → IfSome had (λ xs. StartsWith xs (reader_buffer r))
front_ahead remaining r None k = tt
front_ahead remaining r (Some xs) k = by (reader_capacity r == 0) (remaining (reader_inner r)) k
  where
    by : (b : Bool) (rest : Option (List ℕ)) → Keeps (Some xs) (cond b None (prepend_known (reader_buffer r) rest)) → StartsWith xs (reader_buffer r)
    by true rest h = absurd h
    by false None h = absurd h
    by false (Some ys) h = subst (λ zs. StartsWith zs (reader_buffer r)) h (starts_appended (reader_buffer r) ys)
