-- As many steps as there are contexts reach all that any number of steps reach.
use Rattle.std.proofs.Common.{◌≡◌, ℕ, zero, suc, ◌+◌, ◌≤◌, Bool, true, false, List, [], ◌∷◌, length, refl, ap, sym, ◌∙◌, arith, if◌then◌else◌}
use Rattle.std.specs.List.{list_any}
use Rattle.syntect_grammar_contexts.specs.Contexts.{is_same}
use Rattle.syntect_grammar_linker.specs.Inclusions.{Among}
use Rattle.syntect_grammar_linker.specs.Reached.{has_path_in, HasPath, here, there}
use Rattle.syntect_grammar_contexts.specs.declared.context.ContextId.{ContextId}
use Rattle.syntect_grammar_linker.proofs.Numbers.{is_same_self, same_id}
use Rattle.syntect_grammar_linker.proofs.Walks.{either, or_left, or_right, known}

-- one of two
data Or (A B : Type 0) : Type 0 where
  this : A → Or A B
  that : B → Or A B

any_mono : (f g : ContextId → Bool) → ((a : ContextId) → f a ≡ true → g a ≡ true) → (xs : List ContextId) → list_any f xs ≡ true → list_any g xs ≡ true
any_mono f g h [] e = cc
any_mono f g h (x ∷ xs) e = either (f x) (list_any f xs) e (λ t. or_left (g x) (list_any g xs) (h x t)) (λ t. or_right (g x) (list_any g xs) (any_mono f g h xs t))

any_of : (f : ContextId → Bool) (x : ContextId) (xs : List ContextId) → Among x xs → f x ≡ true → list_any f xs ≡ true
any_of f x [] e t = cc
any_of f x (y ∷ ys) e t = either (is_same x y) (list_any (is_same x) ys) e (λ s. or_left (f y) (list_any f ys) (ap f (sym (same_id x y s)) ∙ t)) (λ s. or_right (f y) (list_any f ys) (any_of f x ys s t))

any_found : {C : Type 0} (f : ContextId → Bool) (xs : List ContextId) → list_any f xs ≡ true → ((x : ContextId) → Among x xs → f x ≡ true → C) → C
any_found f [] e k = cc
any_found f (y ∷ ys) e k = either (f y) (list_any f ys) e (λ t. k y (or_left (is_same y y) (list_any (is_same y) ys) (is_same_self y)) t)
    (λ t. any_found f ys t (λ x m h. k x (or_right (is_same x y) (list_any (is_same x) ys) m) h))

abbrev one : Bool → ℕ
one b = if b then 1 else 0

-- how many pass a test
abbrev count : (ContextId → Bool) → List ContextId → ℕ
count f [] = 0
count f (x ∷ xs) = (if f x then 1 else 0) + count f xs

one_at_most : (b : Bool) → (if b then 1 else 0) ≤ 1
one_at_most true = omega arith
one_at_most false = omega arith

count_within : (f : ContextId → Bool) (xs : List ContextId) → count f xs ≤ length xs
count_within f [] = omega arith
count_within f (x ∷ xs) = omega (arith, one_at_most (f x), count_within f xs)

grown : (a b : Bool) → (a ≡ true → b ≡ true) → (if a then 1 else 0) ≤ (if b then 1 else 0)
grown true true h = omega arith
grown true false h = let e : false ≡ true = h refl in cc
grown false true h = omega arith
grown false false h = omega arith

count_grows : (f g : ContextId → Bool) → ((a : ContextId) → f a ≡ true → g a ≡ true) → (xs : List ContextId) → count f xs ≤ count g xs
count_grows f g h [] = omega arith
count_grows f g h (x ∷ xs) = omega (arith, grown (f x) (g x) (h x), count_grows f g h xs)

-- either nothing is new, or there are more
same_or_more : (f g : ContextId → Bool) → ((a : ContextId) → f a ≡ true → g a ≡ true) → (xs : List ContextId)
    → Or ((a : ContextId) → Among a xs → g a ≡ true → f a ≡ true) (count f xs + 1 ≤ count g xs)
same_or_more f g h [] = this (λ a m t. cc)
same_or_more f g h (x ∷ xs) = by (f x) (g x) refl refl (same_or_more f g h xs)
  where
    by : (p q : Bool) → f x ≡ p → g x ≡ q → Or ((a : ContextId) → Among a xs → g a ≡ true → f a ≡ true) (count f xs + 1 ≤ count g xs)
        → Or ((a : ContextId) → Among a (x ∷ xs) → g a ≡ true → f a ≡ true) (count f (x ∷ xs) + 1 ≤ count g (x ∷ xs))
    by p q e d (that r) = that (omega (arith, grown (f x) (g x) (h x), r))
    by true q e d (this r) = this (λ a m t. either (is_same a x) (list_any (is_same a) xs) m (λ s. ap f (same_id a x s) ∙ e) (λ s. r a s t))
    by false false e d (this r) = this (λ a m t. either (is_same a x) (list_any (is_same a) xs) m (λ s. let k : true ≡ false = sym t ∙ ap g (same_id a x s) ∙ d in cc) (λ s. r a s t))
    by false true e d (this r) =
        let k : one (f x) ≡ 0 = rw e refl in
        let l : one (g x) ≡ 1 = rw d refl in
        that (omega (arith, k, l, count_grows f g h xs))

module _ (steps : ContextId → List ContextId) (test : ContextId → Bool) where
  reach : ℕ → ContextId → Bool
  reach n = has_path_in steps test n

  from_test : (n : ℕ) (a : ContextId) → test a ≡ true → has_path_in steps test n a ≡ true
  from_test zero a e = e
  from_test (suc n) a e = or_left (test a) (list_any (has_path_in steps test n) (steps a)) e

  one_more : (n : ℕ) (a : ContextId) → has_path_in steps test n a ≡ true → has_path_in steps test (suc n) a ≡ true
  one_more zero a e = or_left (test a) (list_any (has_path_in steps test zero) (steps a)) e
  one_more (suc n) a e =
      either (test a) (list_any (has_path_in steps test n) (steps a)) e
      (or_left (test a) (list_any (has_path_in steps test (suc n)) (steps a)))
      (λ t. or_right (test a) (list_any (has_path_in steps test (suc n)) (steps a)) (any_mono (has_path_in steps test n) (has_path_in steps test (suc n)) (one_more n) (steps a) t))

  pub leads_so : (n : ℕ) (a : ContextId) → has_path_in steps test n a ≡ true → HasPath steps test a
  leads_so zero a e = here e
  leads_so (suc n) a e =
      either (test a) (list_any (has_path_in steps test n) (steps a)) e (λ t. here t)
      (λ t. any_found (has_path_in steps test n) (steps a) t (λ x m h. there m (leads_so n x h)))

  abbrev Fixed : ℕ → Type 0
  Fixed n = (a : ContextId) → has_path_in steps test (suc n) a ≡ true → has_path_in steps test n a ≡ true

  stays_fixed : (n : ℕ) → Fixed n → Fixed (suc n)
  stays_fixed n f a e =
      either (test a) (list_any (has_path_in steps test (suc n)) (steps a)) e
      (or_left (test a) (list_any (has_path_in steps test n) (steps a)))
      (λ t. or_right (test a) (list_any (has_path_in steps test n) (steps a)) (any_mono (has_path_in steps test (suc n)) (has_path_in steps test n) f (steps a) t))

  at_fixed : (n : ℕ) → Fixed n → (a : ContextId) → HasPath steps test a → has_path_in steps test n a ≡ true
  at_fixed n f a (here e) = from_test n a e
  at_fixed n f a (there {next = next} e l) = f a (or_right (test a) (list_any (has_path_in steps test n) (steps a)) (any_of (has_path_in steps test n) next (steps a) e (at_fixed n f next l)))

  module _ (all : List ContextId) (outside : (a : ContextId) → list_any (is_same a) all ≡ false → steps a ≡ []) where
    fixed_all : (n : ℕ) → ((a : ContextId) → Among a all → has_path_in steps test (suc n) a ≡ true → has_path_in steps test n a ≡ true) → Fixed n
    fixed_all n h a e = known (list_any (is_same a) all) (λ m. h a m e)
        (λ m. either (test a) (list_any (has_path_in steps test n) (steps a)) e (from_test n a) (λ t. let k : list_any (has_path_in steps test n) [] ≡ true = rw (outside a m) at t in cc))

    fixed_or_more : (n : ℕ) → Or (Fixed n) (n + 1 ≤ count (has_path_in steps test (suc n)) all)
    fixed_or_more zero = by (same_or_more (has_path_in steps test zero) (has_path_in steps test (suc zero)) (one_more zero) all)
      where
        by : Or ((a : ContextId) → Among a all → has_path_in steps test (suc zero) a ≡ true → has_path_in steps test zero a ≡ true) (count (has_path_in steps test zero) all + 1 ≤ count (has_path_in steps test (suc zero)) all)
            → Or (Fixed zero) (zero + 1 ≤ count (has_path_in steps test (suc zero)) all)
        by (this r) = this (fixed_all zero r)
        by (that r) = that (omega (arith, r))
    fixed_or_more (suc n) = by (fixed_or_more n) (same_or_more (has_path_in steps test (suc n)) (has_path_in steps test (suc (suc n))) (one_more (suc n)) all)
      where
        by : Or (Fixed n) (n + 1 ≤ count (has_path_in steps test (suc n)) all)
            → Or ((a : ContextId) → Among a all → has_path_in steps test (suc (suc n)) a ≡ true → has_path_in steps test (suc n) a ≡ true) (count (has_path_in steps test (suc n)) all + 1 ≤ count (has_path_in steps test (suc (suc n))) all)
            → Or (Fixed (suc n)) (suc n + 1 ≤ count (has_path_in steps test (suc (suc n))) all)
        by (this f) r = this (stays_fixed n f)
        by (that l) (this r) = this (fixed_all (suc n) r)
        by (that l) (that r) = that (omega (arith, l, r))

    pub fixed_in_all : Fixed (length all)
    fixed_in_all = by (fixed_or_more (length all))
      where
        by : Or (Fixed (length all)) (length all + 1 ≤ count (has_path_in steps test (suc (length all))) all) → Fixed (length all)
        by (this f) = f
        by (that l) = absurd (omega (arith, l, count_within (has_path_in steps test (suc (length all))) all))

    pub leads_all : (a : ContextId) → HasPath steps test a → has_path_in steps test (length all) a ≡ true
    leads_all a l = at_fixed (length all) fixed_in_all a l
