-- What one scope more on top changes in the contest of the single rules.
use Rattle.std.proofs.Common.{◌≡◌, ◌==◌, ℕ, zero, suc, ◌*◌, ◌^◌, ◌<◌, ◌≤◌, Bool, true, false, not, ◌&&◌, ◌||◌, if◌then◌else◌, List, [], ◌∷◌, ◌++◌, length, Option, Some, None, refl, sym, ap, subst, ◌∙◌, ◌⊎◌, inl, inr, arith, lit<}
use Rattle.std.proofs.Math.Nat.{pow-le-pow_right}
use Rattle.std.proofs.lemmas.Nat.{mul-le}
use Rattle.std.specs.Prelude.{nat_lt}
use Rattle.std.proofs.lemmas.Bool.{lt-ltb}
use Rattle.std.proofs.lemmas.Bool.Decides.{nat_tests}
use Rattle.syntect_style.specs.syntect_scope.Atoms.{is_prefix}
use Rattle.syntect_style.specs.Candidates.{Score, Candidate, beats, deepest, further}
use Rattle.syntect_style.specs.Rules.{against, worth, IsBelow}
use Rattle.syntect_style.proofs.ContestLaws.{against_grouped}

-- ---- places ----

pub deepest_more : (s : List ℕ) (stack : List (List ℕ)) (top : List ℕ) → deepest s (stack ++ top ∷ []) ≡ (if is_prefix s top then Some (length stack) else deepest s stack)
deepest_more s [] top = by (is_prefix s top)
  where
    by : (b : Bool) → further b None ≡ (if b then Some 0 else None)
    by true = refl
    by false = refl
deepest_more s (x ∷ stack) top = ap (further (is_prefix s x)) (deepest_more s stack top) ∙ by (is_prefix s top)
  where
    by : (b : Bool) → further (is_prefix s x) (if b then Some (length stack) else deepest s stack) ≡ (if b then Some (suc (length stack)) else further (is_prefix s x) (deepest s stack))
    by true = refl
    by false = refl

-- a place is one of the stack's
pub deepest_within : (s : List ℕ) (stack : List (List ℕ)) (p : ℕ) → deepest s stack ≡ Some p → p < length stack
deepest_within s [] p e = cc
deepest_within s (x ∷ stack) p e = by (deepest_within s stack) (deepest s stack) refl (is_prefix s x) e
  where
    by : ((q : ℕ) → deepest s stack ≡ Some q → q < length stack) → (o : Option ℕ) → deepest s stack ≡ o → (b : Bool) → further b o ≡ Some p → p < suc (length stack)
    by i (Some q) f b h = let l : q < length stack = i q f in let m : suc q ≡ p = cc in omega arith
    by i None f true h = let m : zero ≡ p = cc in omega arith
    by i None f false h = cc

-- the scope of no atoms begins each scope, so its place is the top
pub nothing_deepest : (stack : List (List ℕ)) (p : ℕ) → deepest [] stack ≡ Some p → suc p ≡ length stack
nothing_deepest [] p e = cc
nothing_deepest (x ∷ stack) p e = by stack (deepest [] stack) refl e (nothing_deepest stack)
  where
    by : (rest : List (List ℕ)) (o : Option ℕ) → deepest [] rest ≡ o → further true o ≡ Some p → ((q : ℕ) → deepest [] rest ≡ Some q → suc q ≡ length rest) → suc p ≡ suc (length rest)
    by rest (Some q) f h i = let m : suc q ≡ p = cc in let n : suc q ≡ length rest = i q f in cc
    by [] None f h i = let m : zero ≡ p = cc in rw (← m) refl
    by (y ∷ rest) None f h i = some_top (deepest [] rest) f
      where
        some_top : (o : Option ℕ) → further true o ≡ None → suc p ≡ suc (suc (length rest))
        some_top (Some q) g = cc
        some_top None g = cc

-- ---- two candidates ----

-- what candidates of one worth share
abbrev pub value_of : {V : Type 0} → V → Option (V × ℕ) → V
value_of v None = v
value_of v (Some w) = w.0

abbrev pub power_of : {V : Type 0} → Option (V × ℕ) → ℕ
power_of None = 0
power_of (Some w) = w.1

module _ {V : Type 0} where
  keeps : (b c : Candidate V) → beats c.score b.score ≡ false → against (Some b) (Some c) ≡ Some b
  keeps b c e = rw e refl

  takes : (b c : Candidate V) → beats c.score b.score ≡ true → against (Some b) (Some c) ≡ Some c
  takes b c e = rw e refl

greater_beats : (b c : Score) → b.power < c.power → beats c b ≡ true
greater_beats b c l = rw (lt-ltb b.power c.power l) refl

less_loses : (b c : Score) → c.power < b.power → beats c b ≡ false
less_loses b c l =
    let f : nat_lt b.power c.power ≡ false = grind (arith, nat_tests) in
    let t : (c.power == b.power) ≡ false = grind (arith, nat_tests) in
    rw (f, t) refl

higher_loses : (b c : Score) (p q : ℕ) → b.place ≡ Some p → c.place ≡ Some q → c.power ≤ b.power → p ≤ q → beats c b ≡ false
higher_loses b c p q e f l m =
    let g : nat_lt b.power c.power ≡ false = grind (arith, nat_tests) in
    let h : nat_lt q p ≡ false = grind (arith, nat_tests) in
    rw (g, e, f, h) (never (c.power == b.power))
  where
    never : (t : Bool) → (t && false) ≡ false
    never true = refl
    never false = refl

numbers_either : (m n : ℕ) → (nat_lt m n || ((n == m) && false)) ≡ not (nat_lt n m || ((m == n) && true))
numbers_either m n = grind (arith, nat_tests)

-- of two at different places one beats
apart_beats : (c y : Score) (p q : ℕ) → c.place ≡ Some p → y.place ≡ Some q → p < q → beats y c ≡ not (beats c y)
apart_beats c y p q e f l =
    let g : nat_lt q p ≡ false = grind (arith, nat_tests) in
    rw (e, f, g, lt-ltb p q l) (numbers_either c.power y.power)

not_less : (m n : ℕ) (t : Bool) → (nat_lt m n || t) ≡ false → n ≤ m
not_less m n t e = grind (arith, nat_tests)

-- ---- below, at the top, and together ----

abbrev pub HasSome : {V : Type 0} → Option (Candidate V) → Type 0
HasSome None = ⊥
HasSome (Some c) = Unit {0}

abbrev pub HasNought : {V : Type 0} → Option (Candidate V) → Type 0
HasNought None = ⊥
HasNought (Some c) = c.score.power ≡ 0

abbrev pub IsAt : {V : Type 0} → ℕ → Option (Candidate V) → Type 0
IsAt n None = Unit {0}
IsAt n (Some c) = c.score.place ≡ Some n

abbrev pub IsUnder : {V : Type 0} → ℕ → Option (Candidate V) → Type 0
IsUnder power None = Unit {0}
IsUnder power (Some c) = c.score.power < power

-- nothing, where there is no place below; or this value with a power of zero,
-- at the place right below
abbrev pub IsJustBelow : {V : Type 0} → ℕ → V → Option (Candidate V) → Type 0
IsJustBelow n v None = n ≡ 0
IsJustBelow n v (Some c) = (c.value ≡ v) × (c.score.power ≡ 0) × ((p : ℕ) × (c.score.place ≡ Some p) × (suc p ≡ n))

-- rules of the scope of no atoms alone: of their powers all are zero, and their place is the top
pub record Noughts (V : Type 0) (n : ℕ) (a m b : Option (Candidate V)) : Type 0 where
  pub x : Candidate V
  pub y : Candidate V
  pub z : Candidate V
  pub a_is : a ≡ Some x
  pub m_is : m ≡ Some y
  pub b_is : b ≡ Some z
  pub x_power : x.score.power ≡ 0
  pub y_power : y.score.power ≡ 0
  pub z_power : z.score.power ≡ 0
  pub z_place : z.score.place ≡ Some n
  pub value : x.value ≡ z.value

-- What stands by the places below the top, what stands at the top, and what stands with both: the
-- better of the two.
pub record Tracks (V : Type 0) (n : ℕ) (a m b : Option (Candidate V)) : Type 0 where
  pub low : IsBelow n a
  pub at_top : IsAt n m
  pub tracks : (b ≡ against a m) ⊎ Noughts V n a m b
  pub nought : HasNought m → 0 < n → HasSome a

module _ {V : Type 0} (n : ℕ) where
  pub below_against : (a c : Option (Candidate V)) → IsBelow n a → IsBelow n c → IsBelow n (against a c)
  below_against a None i j = i
  below_against None (Some c) i j = j
  below_against (Some a) (Some c) i j = by (beats c.score a.score)
    where
      by : (t : Bool) → IsBelow n (if t then Some c else Some a)
      by true = j
      by false = i

  some_against : (a : Option (Candidate V)) (c : Candidate V) → HasSome (against a (Some c))
  some_against None c = tt
  some_against (Some a) c = by (beats c.score a.score)
    where
      by : (t : Bool) → HasSome (if t then Some c else Some a)
      by true = tt
      by false = tt

  -- the order of the two doesn't matter where one stands below
  apart : (c : Candidate V) (m : Option (Candidate V)) → IsBelow n (Some c) → IsAt n m → against (Some c) m ≡ against m (Some c)
  apart c None i j = refl
  apart c (Some y) i j = by (beats y.score c.score) (beats c.score y.score) refl refl (apart_beats c.score y.score i.0 n i.1 j i.2)
    where
      by : (p q : Bool) → beats y.score c.score ≡ p → beats c.score y.score ≡ q → beats y.score c.score ≡ not (beats c.score y.score) → (if beats y.score c.score then Some y else Some c) ≡ (if beats c.score y.score then Some c else Some y)
      by true true d e f = let g : beats y.score c.score ≡ false = f ∙ ap not e in cc
      by true false d e f = rw (d, e) refl
      by false true d e f = rw (d, e) refl
      by false false d e f = let g : beats y.score c.score ≡ true = f ∙ ap not e in cc

  -- a rule that does not match the top
  pub step_below : (a m b : Option (Candidate V)) → Tracks V n a m b → (c : Candidate V) → IsBelow n (Some c) → 0 < c.score.power → Tracks V n (against a (Some c)) m (against b (Some c))
  step_below a m b h c i l = record {
    low = below_against a (Some c) h.low i;
    at_top = h.at_top;
    tracks = by h.tracks;
    nought = λ e k. some_against a c;
  }
    where
      by : (b ≡ against a m) ⊎ Noughts V n a m b → (against b (Some c) ≡ against (against a (Some c)) m) ⊎ Noughts V n (against a (Some c)) m (against b (Some c))
      by (inl e) = inl (ap (λ x. against x (Some c)) e ∙ against_grouped a m (Some c) ∙ ap (against a) (sym (apart c m i h.at_top)) ∙ sym (against_grouped a (Some c) m))
      by (inr t) = inl (
          let f : beats c.score t.z.score ≡ true = greater_beats t.z.score c.score (omega (arith, t.z_power)) in
          let g : beats c.score t.x.score ≡ true = greater_beats t.x.score c.score (omega (arith, t.x_power)) in
          let k : beats t.y.score c.score ≡ false = less_loses c.score t.y.score (omega (arith, t.y_power)) in
          rw (t.a_is, t.m_is, t.b_is, f, g, k) refl)

  grown : (m : Option (Candidate V)) (d : Candidate V) → IsAt n m → d.score.place ≡ Some n → (w : Candidate V) × (against m (Some d) ≡ Some w) × (d.score.power ≤ w.score.power) × (w.score.place ≡ Some n)
  grown None d i j = (d, refl, omega arith, j)
  grown (Some y) d i j = by (beats d.score y.score) refl
    where
      by : (t : Bool) → beats d.score y.score ≡ t → (w : Candidate V) × ((if t then Some d else Some y) ≡ Some w) × (d.score.power ≤ w.score.power) × (w.score.place ≡ Some n)
      by true e = (d, refl, omega arith, j)
      by false e = (y, refl, not_less y.score.power d.score.power _ e, i)

  under_loses : (o : Option (Candidate V)) (w : Candidate V) (power : ℕ) → IsUnder power o → power ≤ w.score.power → against o (Some w) ≡ Some w
  under_loses None w power i l = refl
  under_loses (Some c) w power i l = takes c w (greater_beats c.score w.score (omega arith))

  -- a rule that matches the top with an atom or more
  pub step_above : (a m b : Option (Candidate V)) → Tracks V n a m b → (o : Option (Candidate V)) (d : Candidate V) → IsBelow n o → IsUnder d.score.power o → d.score.place ≡ Some n → 0 < d.score.power
      → Tracks V n (against a o) (against m (Some d)) (against b (Some d))
  step_above a m b h o d i u j l =
      let w : (w : Candidate V) × (against m (Some d) ≡ Some w) × (d.score.power ≤ w.score.power) × (w.score.place ≡ Some n) = grown m d h.at_top j in
      record {
        low = below_against a o h.low i;
        at_top = subst (IsAt n) (sym w.1) w.3;
        tracks = by h.tracks;
        nought = λ e k. let z : w.0.score.power ≡ 0 = subst HasNought w.1 e in let g : d.score.power ≤ w.0.score.power = w.2 in absurd (omega arith);
      }
    where
      by : (b ≡ against a m) ⊎ Noughts V n a m b → (against b (Some d) ≡ against (against a o) (against m (Some d))) ⊎ Noughts V n (against a o) (against m (Some d)) (against b (Some d))
      by (inl e) =
          let w : (w : Candidate V) × (against m (Some d) ≡ Some w) × (d.score.power ≤ w.score.power) × (w.score.place ≡ Some n) = grown m d h.at_top j in
          inl (ap (λ x. against x (Some d)) e ∙ against_grouped a m (Some d) ∙ ap (against a) (w.1 ∙ sym (under_loses o w.0 d.score.power u w.2) ∙ ap (against o) (sym w.1)) ∙ sym (against_grouped a o (against m (Some d))))
      by (inr t) = inl (
          let f : against (Some t.z) (Some d) ≡ Some d = takes t.z d (greater_beats t.z.score d.score (omega (arith, t.z_power))) in
          let g : against (Some t.y) (Some d) ≡ Some d = takes t.y d (greater_beats t.y.score d.score (omega (arith, t.y_power))) in
          let k : against (Some t.x) (Some d) ≡ Some d = takes t.x d (greater_beats t.x.score d.score (omega (arith, t.x_power))) in
          ap (λ x. against x (Some d)) t.b_is ∙ f ∙ sym (
          ap (against (against a o)) (ap (λ x. against x (Some d)) t.m_is ∙ g)
          ∙ against_grouped a o (Some d) ∙ ap (against a) (under_loses o d d.score.power u (omega arith)) ∙ ap (λ x. against x (Some d)) t.a_is ∙ k))

  just_below : (o : Option (Candidate V)) (v : V) → IsJustBelow n v o → IsBelow n o
  just_below None v u = tt
  just_below (Some c) v u = (u.2.0, u.2.1, omega (arith, u.2.2))

  -- nothing at the top beats what is there, with a power of zero
  same_top : (y d : Candidate V) → y.score.place ≡ Some n → d.score.place ≡ Some n → d.score.power ≡ 0 → against (Some y) (Some d) ≡ Some y
  same_top y d i j z = keeps y d (higher_loses y.score d.score n n i j (omega arith) (omega arith))

  -- a rule of the scope of no atoms
  pub step_nought : (a m b : Option (Candidate V)) → Tracks V n a m b → (o : Option (Candidate V)) (d : Candidate V) → d.score.place ≡ Some n → d.score.power ≡ 0 → IsJustBelow n d.value o
      → Tracks V n (against a o) (against m (Some d)) (against b (Some d))
  step_nought None None b h None d j z u = record {
    low = tt;
    at_top = j;
    tracks = by h.tracks;
    nought = λ e k. absurd (omega (arith, u));
  }
    where
      by : (b ≡ None) ⊎ Noughts V n None None b → (against b (Some d) ≡ Some d) ⊎ Noughts V n None (Some d) (against b (Some d))
      by (inl e) = inl (ap (λ x. against x (Some d)) e)
      by (inr t) = let e : None ≡ Some t.x = t.a_is in cc
  step_nought None None b h (Some c) d j z u = record {
    low = (u.2.0, u.2.1, omega (arith, u.2.2));
    at_top = j;
    tracks = by h.tracks;
    nought = λ e k. tt;
  }
    where
      by : (b ≡ None) ⊎ Noughts V n None None b → (against b (Some d) ≡ against (Some c) (Some d)) ⊎ Noughts V n (Some c) (Some d) (against b (Some d))
      by (inl e) = inr (record {
        x = c;
        y = d;
        z = d;
        a_is = refl;
        m_is = refl;
        b_is = ap (λ x. against x (Some d)) e;
        x_power = u.1;
        y_power = z;
        z_power = z;
        z_place = j;
        value = u.0;
      })
      by (inr t) = let e : None ≡ Some t.x = t.a_is in cc
  step_nought None (Some y) b h o d j z u = record {
    low = below_against None o tt (just_below o d.value u);
    at_top = subst (IsAt n) (sym k) h.at_top;
    tracks = by h.tracks;
    nought = λ e l. absurd (h.nought (subst HasNought k e) l);
  }
    where
      k : against (Some y) (Some d) ≡ Some y
      k = same_top y d h.at_top j z

      stays : (o : Option (Candidate V)) → IsJustBelow n d.value o → against (against None o) (Some y) ≡ Some y
      stays None u = refl
      stays (Some c) u = takes c y (greater_beats c.score y.score (positive y.score.power refl))
        where
          positive : (p : ℕ) → y.score.power ≡ p → c.score.power < y.score.power
          positive zero e = absurd (h.nought e (omega (arith, u.2.2)))
          positive (suc p) e = omega (arith, u.1)

      by : (b ≡ Some y) ⊎ Noughts V n None (Some y) b → (against b (Some d) ≡ against (against None o) (against (Some y) (Some d))) ⊎ Noughts V n (against None o) (against (Some y) (Some d)) (against b (Some d))
      by (inl e) = inl (ap (λ x. against x (Some d)) e ∙ k ∙ sym (ap (against (against None o)) k ∙ stays o u))
      by (inr t) = let e : None ≡ Some t.x = t.a_is in cc
  step_nought (Some x) m b h o d j z u = record {
    low = subst (IsBelow n) (sym k) h.low;
    at_top = top m h.at_top;
    tracks = by h.tracks;
    nought = λ e l. subst HasSome (sym k) tt;
  }
    where
      stays : (o : Option (Candidate V)) → IsJustBelow n d.value o → against (Some x) o ≡ Some x
      stays None u = refl
      stays (Some c) u = keeps x c (higher_loses x.score c.score h.low.0 u.2.0 h.low.1 u.2.1 (omega (arith, u.1)) (let l : h.low.0 < n = h.low.2 in let e : suc u.2.0 ≡ n = u.2.2 in omega arith))

      k : against (Some x) o ≡ Some x
      k = stays o u

      top : (m : Option (Candidate V)) → IsAt n m → IsAt n (against m (Some d))
      top None i = j
      top (Some y) i = subst (IsAt n) (sym (same_top y d i j z)) i

      by : (b ≡ against (Some x) m) ⊎ Noughts V n (Some x) m b → (against b (Some d) ≡ against (against (Some x) o) (against m (Some d))) ⊎ Noughts V n (against (Some x) o) (against m (Some d)) (against b (Some d))
      by (inl e) = inl (ap (λ b. against b (Some d)) e ∙ against_grouped (Some x) m (Some d) ∙ ap (λ a. against a (against m (Some d))) (sym k))
      by (inr t) = inr (record {
        x = t.x;
        y = t.y;
        z = t.z;
        a_is = k ∙ t.a_is;
        m_is = ap (λ m. against m (Some d)) t.m_is ∙ same_top t.y d (subst (IsAt n) t.m_is h.at_top) j z;
        b_is = ap (λ b. against b (Some d)) t.b_is ∙ same_top t.z d t.z_place j z;
        x_power = t.x_power;
        y_power = t.y_power;
        z_power = t.z_power;
        z_place = t.z_place;
        value = t.value;
      })

  -- ---- what stands is worth the same ----

  pub tracked_worth : (a m b : Option (Candidate V)) → Tracks V n a m b → worth b ≡ worth (against a m)
  tracked_worth a m b h = by h.tracks
    where
      by : (b ≡ against a m) ⊎ Noughts V n a m b → worth b ≡ worth (against a m)
      by (inl e) = ap worth e
      by (inr t) =
          let l : IsBelow n (Some t.x) = subst (IsBelow n) t.a_is h.low in
          let i : t.y.score.place ≡ Some n = subst (IsAt n) t.m_is h.at_top in
          let k : against (Some t.x) (Some t.y) ≡ Some t.x = keeps t.x t.y (higher_loses t.x.score t.y.score l.0 n l.1 i (omega (arith, t.x_power, t.y_power)) (omega (arith, l.2))) in
          rw (t.a_is, t.m_is, t.b_is, k, t.value, t.x_power, t.z_power) refl

  pub same_worth : (e k m : Option (Candidate V)) → worth e ≡ worth k → IsBelow n e → IsBelow n k → IsAt n m → worth (against e m) ≡ worth (against k m)
  same_worth e k None w i j t = w
  same_worth None None (Some y) w i j t = refl
  same_worth None (Some k) (Some y) w i j t = cc
  same_worth (Some e) None (Some y) w i j t = cc
  same_worth (Some e) (Some k) (Some y) w i j t = by (nat_lt e.score.power y.score.power) refl
    where
      v : e.value ≡ k.value
      v = ap (value_of e.value) w

      p : e.score.power ≡ k.score.power
      p = ap power_of w

      late : (q : ℕ) → q < n → nat_lt n q ≡ false
      late q l = grind (arith, nat_tests)

      never : (t : Bool) → (t && false) ≡ false
      never true = refl
      never false = refl

      by : (b : Bool) → nat_lt e.score.power y.score.power ≡ b → worth (against (Some e) (Some y)) ≡ worth (against (Some k) (Some y))
      by true f = rw (f, ← p, f) refl
      by false f = rw (f, ← p, f, t, i.1, j.1, late i.0 i.2, late j.0 j.2, never (y.score.power == e.score.power), v) refl

-- ---- small weights ----

pub number_not_less : (a b : ℕ) → b ≤ a → false ≡ nat_lt a b
number_not_less a b l = grind (arith, nat_tests)

-- a digit that isn't 0, at a high place, makes more than 64 bits
pub weight_least : (digit place : ℕ) → (digit ≡ 0 → ⊥) → 22 ≤ place → 2 ^ 64 ≤ digit * 8 ^ place
weight_least zero place n l = absurd (n refl)
weight_least (suc digit) place n l =
    let m : 8 ^ 22 ≤ 8 ^ place = pow-le-pow_right {n = 8} (lit< tt) {i = 22} {j = place} l in
    omega (arith, m)

-- and one at a lower place, less than 67
pub power_small : (place : ℕ) → place < 22 → 8 ^ place ≤ 2 ^ 63
power_small place l =
    let m : 8 ^ place ≤ 8 ^ 21 = pow-le-pow_right {n = 8} (lit< tt) {i = place} {j = 21} (omega (arith, l)) in
    omega (arith, m)

pub weight_most : (digit power : ℕ) → digit < 8 → power ≤ 2 ^ 63 → digit * power < 2 ^ 128
weight_most digit power l m =
    let p : digit * power ≤ 7 * 2 ^ 63 = mul-le digit power 7 (2 ^ 63) (omega (arith, l)) m in
    omega (arith, p)
