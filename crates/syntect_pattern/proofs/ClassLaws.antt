-- A class leaves less of the text than there was, and the number that bounds its reading has no
-- effect where it is large enough.
use Rattle.std.proofs.Common.{◌≡◌, ℕ, zero, suc, ◌+◌, ◌≤◌, ◌<◌, [], ◌∷◌, length, drop, Bool, true, false, Option, Some, None, refl, ap, ◌∙◌, arith}
use Rattle.std.specs.Prelude.{if◌then◌else◌, nat_lt}
use Rattle.syntect_pattern.specs.Sets.{Set, negate_if}
use Rattle.syntect_pattern.specs.Reading.{Text, ◌>>=◌, ◌>>◌, first, begins}
use Rattle.syntect_pattern.specs.Classes.{deepest, Class, empty_class, with_set, start_of, Next, closing, intersecting, nested, posix, plain, next_in, posix_form, member, plain_item, posix_item, Step, over, on, adds, step, after_step, first_item, negates, opened, class_rest, class}
use Rattle.syntect_pattern.proofs.LeftLaws.{Within, within-none, within-some, within-bind, within-guard, within-more, left, drop-le, plain_item-le, posix_item-le}

-- what a step leaves, where one that goes on must have read something
abbrev step_size : Step → ℕ
step_size (over rest) = length rest
step_size (on c rest) = suc (length rest)

abbrev rest_size : Step → ℕ
rest_size (over rest) = length rest
rest_size (on c rest) = length rest

pub bind-same : {A B : Type 0} (o : Option A) (f g : A → Option B) → ((a : A) → o ≡ Some a → f a ≡ g a) → (o >>= f) ≡ (o >>= g)
bind-same None f g e = refl
bind-same (Some a) f g e = e a refl

module _ (fold : Bool) where
  adds-le : (c : Class) (n : ℕ) (found : Option (Set × Text)) → Within left n found → Within step_size (suc n) (adds fold c found)
  adds-le c n None e = within-none step_size (suc n)
  adds-le c n (Some a) e = within-some step_size (suc n) (on (with_set c a.0) a.1) (let l = e.fits a refl in omega arith)

  module _ (inner : Text → Option (Set × Text)) (inner-le : (u : Text) → Within left (length u) (inner u)) where
    step-le : (c : Class) (x : ℕ) (t : Text) (nx : Next) → Within step_size (suc (length t)) (step fold inner c (x ∷ t) nx)
    step-le c x t closing = within-some step_size (suc (length t)) (over t) (omega arith)
    step-le c x t intersecting = within-some step_size (suc (length t)) _ (let d = drop-le 1 t in omega arith)
    step-le c x t nested = adds-le c (length t) (inner t) (inner-le t)
    step-le c x t posix = adds-le c (length t) (posix_item fold (x ∷ t)) (posix_item-le fold (x ∷ t))
    step-le c x t plain = adds-le c (length t) (plain_item fold (x ∷ t)) (plain_item-le fold (x ∷ t))

    pub step_at-le : (c : Class) (t : Text) → Within step_size (length t) (step fold inner c t (next_in t))
    unfolding next_in posix_form plain_item member first
    step_at-le c [] = within-none step_size 0
    step_at-le c (x ∷ t) = step-le c x t (next_in (x ∷ t))

  step-same : (inner inner' : Text → Option (Set × Text)) (c : Class) (x : ℕ) (t : Text) (nx : Next) → inner t ≡ inner' t
      → step fold inner c (x ∷ t) nx ≡ step fold inner' c (x ∷ t) nx
  step-same inner inner' c x t closing e = refl
  step-same inner inner' c x t intersecting e = refl
  step-same inner inner' c x t nested e = ap (adds fold c) e
  step-same inner inner' c x t posix e = refl
  step-same inner inner' c x t plain e = refl

  pub step_at-same : (inner inner' : Text → Option (Set × Text)) (c : Class) (t : Text) → ((u : Text) → length u < length t → inner u ≡ inner' u)
      → step fold inner c t (next_in t) ≡ step fold inner' c t (next_in t)
  unfolding next_in posix_form
  step_at-same inner inner' c [] e = refl
  step_at-same inner inner' c (x ∷ t) e = step-same inner inner' c x t (next_in (x ∷ t)) (e t (omega arith))

  start-le : (t : Text) → length (start_of t).rest ≤ length t
  unfolding start_of
  start-le t = by_test (begins "^" t)
    where
      by_test : (b : Bool) → length (if b then drop 1 t else t) ≤ length t
      by_test true = drop-le 1 t
      by_test false = omega arith

  first_added : (n : ℕ) (found : Option (Set × Text)) → Within left n found → Within rest_size n (adds fold empty_class found)
  first_added n None e = within-none rest_size n
  first_added n (Some a) e = within-some rest_size n (on (with_set empty_class a.0) a.1) (e.fits a refl)

  first_item-le : (b : Bool) (t : Text) → Within rest_size (length t) (first_item fold b t)
  first_item-le true t = first_added (length t) (plain_item fold t) (within-more left (length (drop 1 t)) (length t) _ (drop-le 1 t) (plain_item-le fold t))
  first_item-le false t = within-some rest_size (length t) (on empty_class t) (omega arith)

  negates-le : (caret : Bool) (n : ℕ) (found : Option (Set × Text)) → Within left n found → Within left n (negates fold caret found)
  negates-le caret n None e = within-none left n
  negates-le caret n (Some a) e = within-some left n (negate_if caret a.0, a.1) (e.fits a refl)

  module _ (more : ℕ → Class → Text → Option (Set × Text)) (more-le : (d : ℕ) (c : Class) (u : Text) → Within left (length u) (more d c u)) where
    after_step-le : (d : ℕ) (c : Class) (s : Step) → Within left (rest_size s) (after_step fold (more d) c s)
    after_step-le d c (over rest) = within-some left (length rest) _ (omega arith)
    after_step-le d c (on c' rest) = more-le d c' rest

    opened-le : (depth : ℕ) (t : Text) → Within left (length t) (opened fold more depth t)
    opened-le depth t =
        let start = start_of t in
        within-guard left (length t) (nat_lt depth deepest) (first_item fold start.bracket start.rest >>= λ s. negates fold start.caret (after_step fold (more (depth + 1)) empty_class s))
        (within-bind left (length t) (first_item fold start.bracket start.rest) (λ s. negates fold start.caret (after_step fold (more (depth + 1)) empty_class s)) (λ s q.
        let l = (first_item-le start.bracket start.rest).fits s q in
        let k = start-le t in
        negates-le start.caret (length t) _ (within-more left (rest_size s) (length t) _ (omega arith) (after_step-le (depth + 1) empty_class s))))

  step_rest : (s : Step) → rest_size s ≤ step_size s
  step_rest (over rest) = omega arith
  step_rest (on c rest) = omega arith

  class_rest-le : (n depth : ℕ) (c : Class) (t : Text) → Within left (length t) (class_rest fold n depth c t)
  unfolding class_rest
  class_rest-le zero depth c t = within-none left (length t)
  class_rest-le (suc n) depth c t =
      let inner = opened fold (class_rest fold n) depth in
      within-bind left (length t) (step fold inner c t (next_in t)) (after_step fold (class_rest fold n depth) c) (λ s q.
      let l = (step_at-le inner (opened-le (class_rest fold n) (class_rest-le n) depth) c t).fits s q in
      let k = step_rest s in
      within-more left (rest_size s) (length t) _ (omega arith) (after_step-le (class_rest fold n) (class_rest-le n) depth c s))

  pub class-le : (depth : ℕ) (t : Text) → Within left (length t) (class fold depth t)
  unfolding class
  class-le depth t = opened-le (class_rest fold (suc (length t))) (class_rest-le (suc (length t))) depth t

  after-same : (more more' : Class → Text → Option (Set × Text)) (c : Class) (s : Step) (n : ℕ) → ((c' : Class) (u : Text) → length u ≤ n → more c' u ≡ more' c' u) → rest_size s ≤ n
      → after_step fold more c s ≡ after_step fold more' c s
  after-same more more' c (over rest) n e l = refl
  after-same more more' c (on c' rest) n e l = e c' rest l

  pub opened-same : (more more' : ℕ → Class → Text → Option (Set × Text)) (depth : ℕ) (t : Text) → ((d : ℕ) (c : Class) (u : Text) → length u ≤ length t → more d c u ≡ more' d c u)
      → opened fold more depth t ≡ opened fold more' depth t
  opened-same more more' depth t e =
      let start = start_of t in
      ap (λ o. nat_lt depth deepest >> o)
      (bind-same (first_item fold start.bracket start.rest) _ _ (λ s q.
      let l = (first_item-le start.bracket start.rest).fits s q in
      let k = start-le t in
      ap (negates fold start.caret) (after-same (more (depth + 1)) (more' (depth + 1)) empty_class s (length t) (e (depth + 1)) (omega arith))))

  pub on_less : (s : Step) (n : ℕ) → step_size s ≤ n → (more more' : Class → Text → Option (Set × Text)) (c : Class)
      → ((c' : Class) (u : Text) → length u < n → more c' u ≡ more' c' u) → after_step fold more c s ≡ after_step fold more' c s
  on_less (over rest) n l more more' c e = refl
  on_less (on c' rest) n l more more' c e = e c' rest (omega arith)

  -- each number above the length of the text reads the same
  pub class_rest-enough : (n m depth : ℕ) (c : Class) (t : Text) → length t < n → length t < m → class_rest fold n depth c t ≡ class_rest fold m depth c t
  unfolding class_rest
  class_rest-enough zero m depth c t a b = absurd (omega arith)
  class_rest-enough (suc n) zero depth c t a b = absurd (omega arith)
  class_rest-enough (suc n) (suc m) depth c t a b =
      ap (λ o. o >>= after_step fold (class_rest fold n depth) c)
      (step_at-same (opened fold (class_rest fold n) depth) (opened fold (class_rest fold m) depth) c t
      (λ u l. opened-same (class_rest fold n) (class_rest fold m) depth u (λ d c' v k. class_rest-enough n m d c' v (omega arith) (omega arith))))
      ∙ bind-same (step fold (opened fold (class_rest fold m) depth) c t (next_in t)) _ _ (λ s q.
      on_less s (length t) ((step_at-le (opened fold (class_rest fold m) depth) (opened-le (class_rest fold m) (class_rest-le m) depth) c t).fits s q)
      (class_rest fold n depth) (class_rest fold m depth) c (λ c' u l. class_rest-enough n m depth c' u (omega arith) (omega arith)))
