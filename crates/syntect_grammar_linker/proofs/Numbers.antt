-- The numbers of contexts.
use Rattle.std.proofs.Common.{◌≡◌, ℕ, zero, suc, ◌+◌, Bool, true, false, ◌||◌, List, [], ◌∷◌, ◌++◌, length, Some, slice_get, refl, ap, ◌∙◌, arith, length-append}
use Rattle.std.specs.List.{list_any}
use Rattle.std.specs.Option.{option_and_then}
use Rattle.std.proofs.lemmas.Bool.Decides.{nat_tests}
use Rattle.syntect_grammar_contexts.specs.Contexts.{is_same}
use Rattle.syntect_grammar_contexts.specs.Contexts.{count_contexts}
use Rattle.syntect_grammar_contexts.specs.declared.context.ContextId.{ContextId}
use Rattle.syntect_grammar_contexts.specs.declared.context.Context.{Context}

abbrev pub number : ℕ → ℕ → ContextId
number i j = record { syntax_index = i; context_index = j }

abbrev pub numbers_of : ℕ → ℕ → ℕ → List ContextId
numbers_of i j zero = []
numbers_of i j (suc n) = number i j ∷ numbers_of i (j + 1) n

abbrev pub numbers_from : ℕ → List (List Context) → List ContextId
numbers_from i [] = []
numbers_from i (cs ∷ css) = numbers_of i 0 (length cs) ++ numbers_from (i + 1) css

length_of : (i j n : ℕ) → length (numbers_of i j n) ≡ n
length_of i j zero = refl
length_of i j (suc n) = ap suc (length_of i (j + 1) n)

pub length_from : (i : ℕ) (css : List (List Context)) → length (numbers_from i css) ≡ count_contexts css
length_from i [] = refl
length_from i (cs ∷ css) = omega (arith, length-append (numbers_of i 0 (length cs)) (numbers_from (i + 1) css), length_of i 0 (length cs), length_from (i + 1) css)

pub any_append : (p : ContextId → Bool) (xs ys : List ContextId) → list_any p (xs ++ ys) ≡ (list_any p xs || list_any p ys)
any_append p [] ys = refl
any_append p (x ∷ xs) ys = or_step (p x) (list_any p xs) (list_any p ys) (list_any p (xs ++ ys)) (any_append p xs ys)
  where
    or_step : (a b c d : Bool) → d ≡ (b || c) → (a || d) ≡ ((a || b) || c)
    or_step true b c d e = refl
    or_step false b c d e = e

pub is_same_self : (a : ContextId) → is_same a a ≡ true
is_same_self a = grind (arith, nat_tests)

pub same_id : (a b : ContextId) → is_same a b ≡ true → a ≡ b
same_id a b e =
    let i : a.syntax_index ≡ b.syntax_index = grind (arith, nat_tests) in
    let j : a.context_index ≡ b.context_index = grind (arith, nat_tests) in
    ap (λ (n : ℕ). number n a.context_index) i ∙ ap (λ (n : ℕ). number b.syntax_index n) j

pub any_here : (p : ContextId → Bool) (x : ContextId) (xs : List ContextId) → p x ≡ true → list_any p (x ∷ xs) ≡ true
any_here p x xs e = rw e refl

pub any_later : (p : ContextId → Bool) (x : ContextId) (xs : List ContextId) → list_any p xs ≡ true → list_any p (x ∷ xs) ≡ true
any_later p x xs e = by (p x) (list_any p xs) e
  where
    by : (a b : Bool) → b ≡ true → (a || b) ≡ true
    by true b e = refl
    by false b e = e

pub any_left : (p : ContextId → Bool) (xs ys : List ContextId) → list_any p xs ≡ true → list_any p (xs ++ ys) ≡ true
any_left p xs ys e = rw (any_append p xs ys, e) refl

pub any_right : (p : ContextId → Bool) (xs ys : List ContextId) → list_any p ys ≡ true → list_any p (xs ++ ys) ≡ true
any_right p xs ys e = rw (any_append p xs ys, e) (by (list_any p xs))
  where
    by : (a : Bool) → (a || true) ≡ true
    by true = refl
    by false = refl

listed_of : (i j k : ℕ) (cs : List Context) (c : Context) → slice_get cs k ≡ Some c → list_any (is_same (number i (j + k))) (numbers_of i j (length cs)) ≡ true
listed_of i j k [] c e = cc
listed_of i j zero (d ∷ cs) c e = any_here (is_same (number i (j + 0))) (number i j) (numbers_of i (j + 1) (length cs)) (grind (arith, nat_tests))
listed_of i j (suc k) (d ∷ cs) c e =
    let m : (j + 1) + k ≡ j + suc k = omega arith in
    let h : list_any (is_same (number i ((j + 1) + k))) (numbers_of i (j + 1) (length cs)) ≡ true = listed_of i (j + 1) k cs c e in
    any_later (is_same (number i (j + suc k))) (number i j) (numbers_of i (j + 1) (length cs)) (rw m at h)

pub listed_from : (i k n : ℕ) (css : List (List Context)) (c : Context) → option_and_then (λ (cs : List Context). slice_get cs n) (slice_get css k) ≡ Some c
    → list_any (is_same (number (i + k) n)) (numbers_from i css) ≡ true
listed_from i k n [] c e = cc
listed_from i zero n (cs ∷ css) c e =
    let z : i + 0 ≡ i = omega arith in
    let y : 0 + n ≡ n = omega arith in
    any_left (is_same (number (i + 0) n)) (numbers_of i 0 (length cs)) (numbers_from (i + 1) css) (rw (z, ← y) (listed_of i 0 n cs c e))
listed_from i (suc k) n (cs ∷ css) c e =
    let m : (i + 1) + k ≡ i + suc k = omega arith in
    let h : list_any (is_same (number ((i + 1) + k) n)) (numbers_from (i + 1) css) ≡ true = listed_from (i + 1) k n css c e in
    any_right (is_same (number (i + suc k) n)) (numbers_of i 0 (length cs)) (numbers_from (i + 1) css) (rw m at h)
