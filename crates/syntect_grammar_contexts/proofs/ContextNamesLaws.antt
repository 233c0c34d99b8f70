-- A name among names in the order of their bytes.
use Rattle.std.proofs.Common.{◌≡◌, ℕ, ◌+◌, ◌<◌, ◌≤◌, Bool, true, false, cond, nat_lt, ◌==◌, List, [], length, get_or, position, nat_cmp, is_eq, is_lt, Some, None, Result, Ok, Err, Ordering, Less, Equal, Greater, refl, sym, ap, ◌∙◌, arith}
use Rattle.std.specs.Cmp.Lexicographic.{pointwise, slice_cmp}
use Rattle.std.specs.List.{position_or_len}
use Rattle.std.specs.List.Sorted.{IsStrictlySortedBy, IsBinarySearchResult, IsSearchInRange}
use Rattle.std.specs.Ordering.{ordering_reverse}
use Rattle.std.specs.Result.{result_ok}
use Rattle.std.proofs.lemmas.Bool.Decides.{nat_tests}
use Rattle.std.proofs.lemmas.Cmp.{nat_list_cmp_total, alike_right}
use Rattle.std.proofs.lemmas.List.Sorted.{searchable_from_sorted}
use Rattle.std.proofs.lemmas.List.Sums.{position_or_len_is}
use Rattle.std.proofs.lemmas.Map.Keys.{Less-from_sorted}
use Rattle.std.proofs.lemmas.Map.Text.{is_eq-slice_cmp}

abbrev order : List ℕ → List ℕ → Ordering
order = slice_cmp nat_cmp

-- ---- the first that passes a test ----

first_at : {A : Type 0} (test : A → Bool) (xs : List A) (i : ℕ) (d : A) → i < length xs → ((k : ℕ) → k < i → test (get_or xs k d) ≡ false) → test (get_or xs i d) ≡ true → position test xs ≡ Some i
first_at test xs i d l before at =
    let e : position_or_len test xs ≡ i = position_or_len_is test xs i d (omega (arith, l)) before (λ _. at) in
    let b : nat_lt i (length xs) ≡ true = grind (arith, nat_tests) in
    ap (λ n. cond (nat_lt n (length xs)) (Some n) None) e ∙ ap (λ t. cond t (Some i) None) b

nowhere : {A : Type 0} (test : A → Bool) (xs : List A) (d : A) → ((k : ℕ) → k < length xs → test (get_or xs k d) ≡ false) → position test xs ≡ None
nowhere test xs d h =
    let e : position_or_len test xs ≡ length xs = position_or_len_is test xs (length xs) d (omega arith) h (λ l. absurd (omega (arith, l))) in
    let b : nat_lt (length xs) (length xs) ≡ false = grind (arith, nat_tests) in
    ap (λ n. cond (nat_lt n (length xs)) (Some n) None) e ∙ ap (λ t. cond t (Some (length xs)) None) b

-- ---- names ----

-- whether two names are equal is decided by how the second stands to the first
same_by : (name other : List ℕ) (o : Ordering) → order other name ≡ o → pointwise ◌==◌ name other ≡ is_eq (ordering_reverse o)
same_by name other o e = sym (is_eq-slice_cmp name other) ∙ ap is_eq (nat_list_cmp_total.antisymm name other) ∙ ap (λ x. is_eq (ordering_reverse x)) e

-- What halving finds is the place of the name: the names before it are less.
pub halved : (name : List ℕ) (names : List (List ℕ)) (r : Result ℕ ℕ) → IsStrictlySortedBy (slice_cmp nat_cmp) names → IsSearchInRange r (length names)
    → IsBinarySearchResult (λ y. slice_cmp nat_cmp y name) names r → result_ok r ≡ position (pointwise ◌==◌ name) names
halved name names (Ok i) up within at = sym (first_at (pointwise ◌==◌ name) names i [] within before (same_by name (get_or names i []) Equal (at [])))
  where
    before : (k : ℕ) → k < i → pointwise ◌==◌ name (get_or names k []) ≡ false
    before k l =
        let less : order (get_or names k []) (get_or names i []) ≡ Less = Less-from_sorted order names k i [] up l within in
        same_by name (get_or names k []) Less (sym (alike_right nat_list_cmp_total (get_or names i []) name (get_or names k []) (at [])) ∙ less)
halved name names (Err i) up within parted = sym (nowhere (pointwise ◌==◌ name) names [] (λ k l. apart k l (nat_lt k i) refl))
  where
    rising : (k : ℕ) (d : List ℕ) → 0 ≤ k → k + 1 < length names → is_lt (order (get_or names (k + 1) d) (get_or names k d)) ≡ false
    rising k d z l =
        let less : order (get_or names k d) (get_or names (k + 1) d) ≡ Less = Less-from_sorted order names k (k + 1) d up (omega arith) l in
        ap is_lt (nat_list_cmp_total.antisymm (get_or names (k + 1) d) (get_or names k d) ∙ ap ordering_reverse less)

    apart : (k : ℕ) → k < length names → (b : Bool) → nat_lt k i ≡ b → pointwise ◌==◌ name (get_or names k []) ≡ false
    apart k l true e =
        let below : k < i = grind (arith, nat_tests) in
        same_by name (get_or names k []) Less ((parted (searchable_from_sorted nat_list_cmp_total (λ y. y) names name rising)).0 k [] (omega arith) below)
    apart k l false e =
        let above : i ≤ k = grind (arith, nat_tests) in
        same_by name (get_or names k []) Greater ((parted (searchable_from_sorted nat_list_cmp_total (λ y. y) names name rising)).1 k [] above l)

-- where there are no names, none is out of order
pub none_in_order : (names : List (List ℕ)) → names ≡ [] → IsStrictlySortedBy (slice_cmp nat_cmp) names
unfolding IsStrictlySortedBy
none_in_order names e = rw e tt
