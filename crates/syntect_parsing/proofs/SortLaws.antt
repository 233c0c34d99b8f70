-- What a stable sort by a number leaves.
use Rattle.std.proofs.Common.{◌≡◌, ◌≤◌, ◌<◌, ℕ, zero, suc, nat_lt, Bool, true, false, cond, List, [], ◌∷◌, length, filter, get_or, nat_cmp, is_lt, refl, sym, ap, ◌∙◌, arith, suc-le-suc, zero-le, if◌then◌else◌}
use Rattle.std.proofs.lemmas.Bool.Decides.{nat_tests}
use Rattle.std.specs.List.Sorted.{ties, IsNonDecreasingBy, IsStableByKey}
use Rattle.syntect_parsing.specs.Sorting.{put_behind, in_order}

module _ {X : Type 0} (n : X → ℕ) where
  -- of one number
  abbrev tie : X → X → Bool
  tie = ties (λ x y. is_lt (nat_cmp (n x) (n y)))

  tied : (x y : X) → tie x y ≡ true → n x ≡ n y
  tied x y e = grind (arith, nat_tests)

  tie_of : (x y : X) → n x ≡ n y → tie x y ≡ true
  tie_of x y e = grind (arith, nat_tests)

  -- no number in the list is lower
  abbrev NoneBelow : ℕ → List X → Type 0
  NoneBelow k [] = Unit {0}
  NoneBelow k (y ∷ ys) = (k ≤ n y) × NoneBelow k ys

  abbrev Rises : List X → Type 0
  Rises [] = Unit {0}
  Rises (y ∷ ys) = NoneBelow (n y) ys × Rises ys

  below_less : (k l : ℕ) (ys : List X) → k ≤ l → NoneBelow l ys → NoneBelow k ys
  below_less k l [] h g = tt
  below_less k l (y ∷ ys) h g = let g0 = g.0 in (omega (arith, g0), below_less k l ys h g.1)

  put_none_below : (k : ℕ) (x : X) (ys : List X) → k ≤ n x → NoneBelow k ys → NoneBelow k (put_behind n x ys)
  put_none_below k x [] h g = (h, tt)
  put_none_below k x (y ∷ ys) h g = by (nat_lt (n y) (n x)) (put_none_below k x ys h g.1)
    where
      by : (b : Bool) → NoneBelow k (put_behind n x ys) → NoneBelow k (if b then y ∷ put_behind n x ys else x ∷ y ∷ ys)
      by true rest = (g.0, rest)
      by false rest = (h, g)

  put_rises : (x : X) (ys : List X) → Rises ys → Rises (put_behind n x ys)
  put_rises x [] r = (tt, tt)
  put_rises x (y ∷ ys) r = by (nat_lt (n y) (n x)) refl (put_rises x ys r.1)
    where
      by : (b : Bool) → nat_lt (n y) (n x) ≡ b → Rises (put_behind n x ys) → Rises (if b then y ∷ put_behind n x ys else x ∷ y ∷ ys)
      by true e rest = let l : n y ≤ n x = grind (arith, nat_tests) in (put_none_below (n y) x ys l r.0, rest)
      by false e rest = let l : n x ≤ n y = grind (arith, nat_tests) in ((l, below_less (n x) (n y) ys l r.0), r)

  order_rises : (xs : List X) → Rises (in_order n xs)
  order_rises [] = tt
  order_rises (x ∷ xs) = put_rises x (in_order n xs) (order_rises xs)

  -- an element that is put among others stands first of those of its number
  put_tied : (z x : X) (ys : List X) → filter (tie z) (put_behind n x ys) ≡ filter (tie z) (x ∷ ys)
  put_tied z x [] = refl
  put_tied z x (y ∷ ys) = by (nat_lt (n y) (n x)) refl (put_tied z x ys)
    where
      swap : (p q : Bool) (l : List X) → (p ≡ true → q ≡ true → ⊥) → cond q (y ∷ cond p (x ∷ l) l) (cond p (x ∷ l) l) ≡ cond p (x ∷ cond q (y ∷ l) l) (cond q (y ∷ l) l)
      swap true true l h = absurd (h refl refl)
      swap true false l h = refl
      swap false true l h = refl
      swap false false l h = refl

      by : (b : Bool) → nat_lt (n y) (n x) ≡ b → filter (tie z) (put_behind n x ys) ≡ filter (tie z) (x ∷ ys) → filter (tie z) (if b then y ∷ put_behind n x ys else x ∷ y ∷ ys) ≡ filter (tie z) (x ∷ y ∷ ys)
      by true e rest =
          let apart : tie z x ≡ true → tie z y ≡ true → ⊥ =
          λ p q. let p1 = tied z x p in let q1 = tied z y q in let l : n y < n x = grind (arith, nat_tests) in omega (arith, p1, q1, l)
          in
          ap (λ (l : List X). cond (tie z y) (y ∷ l) l) rest ∙ swap (tie z x) (tie z y) (filter (tie z) ys) apart
      by false e rest = refl

  order_tied : (z : X) (xs : List X) → filter (tie z) (in_order n xs) ≡ filter (tie z) xs
  order_tied z [] = refl
  order_tied z (x ∷ xs) = put_tied z x (in_order n xs) ∙ ap (λ (l : List X). cond (tie z x) (x ∷ l) l) (order_tied z xs)

  kept : (z y : X) (ys : List X) → tie z y ≡ true → filter (tie z) (y ∷ ys) ≡ y ∷ filter (tie z) ys
  kept z y ys e = rw e refl

  left_out : (z y : X) (ys : List X) → tie z y ≡ false → filter (tie z) (y ∷ ys) ≡ filter (tie z) ys
  left_out z y ys e = rw e refl

  -- some element of the list has the number of z
  found_above : (k : ℕ) (z : X) (ys : List X) (w : X) (ws : List X) → NoneBelow k ys → filter (tie z) ys ≡ w ∷ ws → k ≤ n z
  found_above k z [] w ws h e = cc
  found_above k z (y ∷ ys) w ws h e = by (tie z y) refl (λ f. found_above k z ys w ws h.1 f)
    where
      by : (b : Bool) → tie z y ≡ b → (filter (tie z) ys ≡ w ∷ ws → k ≤ n z) → k ≤ n z
      by true f rest = let g = tied z y f in let h0 = h.0 in omega (arith, g, h0)
      by false f rest = rest (sym (left_out z y ys f) ∙ e)

  -- two lists that rise are equal where they have the same elements of each number
  -- in the same order
  same_rising : (ys zs : List X) → Rises ys → Rises zs → ((x : X) → filter (tie x) ys ≡ filter (tie x) zs) → ys ≡ zs
  same_rising [] [] r q h = refl
  same_rising [] (z ∷ zs) r q h = let e = h z ∙ kept z z zs (tie_of z z refl) in cc
  same_rising (y ∷ ys) [] r q h = let e = sym (h y) ∙ kept y y ys (tie_of y y refl) in cc
  same_rising (y ∷ ys) (z ∷ zs) r q h =
      let at_y = kept y y ys (tie_of y y refl) in
      let at_z = kept z z zs (tie_of z z refl) in
      let up : n z ≤ n y = found_above (n z) y (z ∷ zs) y _ (omega arith, q.0) (sym (h y) ∙ at_y) in
      let down : n y ≤ n z = found_above (n y) z (y ∷ ys) z _ (omega arith, r.0) (h z ∙ at_z) in
      let both : n y ≡ n z = omega (arith, up, down) in
      let heads = sym at_y ∙ h y ∙ kept y z zs (tie_of y z both) in
      let head : y ≡ z = cc in
      ap (λ w. w ∷ ys) head ∙ ap (λ l. z ∷ l) (same_rising ys zs r.1 q.1 (tails head))
    where
      tails : y ≡ z → (x : X) → filter (tie x) ys ≡ filter (tie x) zs
      tails head x = by (tie x y) refl
        where
          by : (b : Bool) → tie x y ≡ b → filter (tie x) ys ≡ filter (tie x) zs
          by true f = let e = sym (kept x y ys f) ∙ h x ∙ kept x z zs (ap (tie x) (sym head) ∙ f) in cc
          by false f = sym (left_out x y ys f) ∙ h x ∙ left_out x z zs (ap (tie x) (sym head) ∙ f)

  none_below_at : (k : ℕ) (ys : List X) → ((j : ℕ) (d : X) → j < length ys → k ≤ n (get_or ys j d)) → NoneBelow k ys
  none_below_at k [] h = tt
  none_below_at k (y ∷ ys) h = (h zero y (suc-le-suc zero-le), none_below_at k ys (λ j d l. h (suc j) d (suc-le-suc l)))

  rises_by : (ys : List X) → IsNonDecreasingBy n ys → Rises ys
  rises_by [] h = tt
  rises_by (y ∷ ys) h = (
    none_below_at (n y) ys (λ j d l. h zero (suc j) d zero-le (suc-le-suc l)),
    rises_by ys (λ i j d l m. h (suc i) (suc j) d (suc-le-suc l) (suc-le-suc m)),
  )

  -- what a stable sort leaves
  pub sorted_is : (xs ys : List X) → IsNonDecreasingBy n ys → IsStableByKey n nat_cmp xs ys → ys ≡ in_order n xs
  sorted_is xs ys sorted stable = same_rising ys (in_order n xs) (rises_by ys sorted) (order_rises xs) (λ x. stable x ∙ sym (order_tied x xs))
