-- Steps at a place.
use Rattle.std.proofs.Common.{◌≡◌, ℕ, zero, suc, ◌+◌, ◌-◌, ◌*◌, ◌<◌, ◌≤◌, Bool, true, false, List, [], ◌∷◌, length, set, get_or, replicate, Option, Some, None, refl, sym, ap, subst, ◌∙◌, arith}
use Rattle.std.specs.Prelude.{if◌then◌else◌}
use Rattle.std.proofs.lemmas.List.{length-set, get_or-set_other}
use Rattle.syntect_pattern_linear.specs.Ground.{height_of}
use Rattle.syntect_pattern_linear.specs.syntect_pattern.Text.{is_boundary}
use Rattle.syntect_pattern_linear.specs.Steps.{unknown, stops, Takes}
use Rattle.syntect_pattern_linear.specs.declared.ground.Ground.{Ground}

abbrev Now : Type 0
Now = List (Option (Option ℕ))

pub takes-none : (x : Ground) (h : ℕ) (l : List (Option (Option ℕ))) (m few : ℕ) → Takes x h l m l m few
takes-none x h l m few = record { long = refl; kept = λ j e. refl; paid = omega arith; counts = omega arith }

pub takes-one : (x : Ground) (a h : ℕ) (l0 l1 : List (Option (Option ℕ))) (m0 m1 few more : ℕ) → Takes x a l0 m0 l1 m1 few → a ≤ h → few ≤ more → Takes x h l0 m0 l1 m1 more
takes-one x a h l0 l1 m0 m1 few more t e f = record {
  long = t.long;
  kept = λ j k. t.kept j (omega arith);
  paid = let p = t.paid in omega arith;
  counts = t.counts;
}

pub takes-both : (x : Ground) (a b h : ℕ) (l0 l1 l2 : List (Option (Option ℕ))) (m0 m1 m2 : ℕ) → Takes x a l0 m0 l1 m1 1 → Takes x b l1 m1 l2 m2 1 → a ≤ h → b ≤ h → Takes x h l0 m0 l2 m2 2
takes-both x a b h l0 l1 l2 m0 m1 m2 t u e f = record {
  long = u.long ∙ t.long;
  kept = λ j k. u.kept j (omega arith) ∙ t.kept j (omega arith);
  paid = let p = t.paid in let q = u.paid in omega arith;
  counts = let p = t.counts in let q = u.counts in omega arith;
}

unknown-set : (l : List (Option (Option ℕ))) (k : ℕ) (o : Option ℕ) → k < length l → get_or l k None ≡ None → suc (unknown (set l k (Some o))) ≡ unknown l
unknown-set [] k o l e = absurd (omega arith)
unknown-set (None ∷ now) zero o l e = refl
unknown-set (Some p ∷ now) zero o l e = cc
unknown-set (None ∷ now) (suc k) o l e = ap suc (unknown-set now k o (omega arith) e)
unknown-set (Some p ∷ now) (suc k) o l e = unknown-set now k o (omega arith) e

pub takes-keep : (x : Ground) (k : ℕ) (l0 l1 l2 : List (Option (Option ℕ))) (m0 m1 m2 : ℕ) (o : Option ℕ) → m1 ≡ m0 + 1 → Takes x (height_of x k) l0 m1 l1 m2 2
    → get_or l0 k None ≡ None → k < length l0 → l2 ≡ set l1 k (Some o) → Takes x (suc (height_of x k)) l0 m0 l2 m2 1
takes-keep x k l0 l1 l2 m0 m1 m2 o z t e l q =
    let here : get_or l1 k None ≡ None = t.kept k (omega arith) ∙ e in
    let fewer = unknown-set l1 k o (let a = t.long in omega arith) here in
    let less = ap unknown q in
    record {
      long = ap length q ∙ length-set l1 k (Some o) ∙ t.long;
      kept = λ j h. ap (λ (x : List (Option (Option ℕ))). get_or x j None) q
          ∙ get_or-set_other l1 k j (Some o) None (λ s. let w = ap (height_of x) s in absurd (omega arith)) ∙ t.kept j (omega arith);
      paid = let p = t.paid in omega (arith, p, fewer, less, z);
      counts = let p = t.counts in omega (arith, p, z);
    }

pub takes-known : (x : Ground) (h : ℕ) (l : List (Option (Option ℕ))) (m0 m1 : ℕ) → m1 ≡ m0 + 1 → Takes x h l m0 l m1 1
takes-known x h l m0 m1 e = record { long = refl; kept = λ j k. refl; paid = omega arith; counts = omega arith }

pub none-if : {A : Type 0} (o : Option A) → ((v : A) → o ≡ Some v → ⊥) → o ≡ None
none-if None h = refl
none-if (Some v) h = absurd (h v refl)

-- no more is unknown than there is
pub unknown-most : (l : List (Option (Option ℕ))) → unknown l ≤ length l
unknown-most [] = omega arith
unknown-most (None ∷ now) = let a = unknown-most now in omega arith
unknown-most (Some o ∷ now) = let a = unknown-most now in omega arith

-- a row more
pub rows-cost : (c r m0 m1 m2 : ℕ) → m1 ≤ m0 + c * r → m2 ≤ m1 + c → m2 ≤ m0 + c * (r + 1)
rows-cost c r m0 m1 m2 h k = let e : c * (r + 1) ≡ c * r + c = grind arith in omega arith

-- a row more takes its steps, where its place has one
pub rows-least : (s : List ℕ) (c n place m0 m1 m2 : ℕ) → n + place ≡ length s → m0 + c * stops s n ≤ m1 → m1 + (if is_boundary s place then c else 0) ≤ m2 → m0 + c * stops s (suc n) ≤ m2
rows-least s c n place m0 m1 m2 e h k =
    let at : length s - n ≡ place = omega (arith, e) in
    let P : ℕ → Type 0 = λ p. m0 + c * (stops s n + (if is_boundary s p then 1 else 0)) ≤ m2 in
    subst P (sym at) (go (is_boundary s place) (stops s n) h k)
  where
    go : (b : Bool) (r : ℕ) → m0 + c * r ≤ m1 → m1 + (if b then c else 0) ≤ m2 → m0 + c * (r + (if b then 1 else 0)) ≤ m2
    go true r h k = let e : c * (r + 1) ≡ c * r + c = grind arith in omega arith
    go false r h k = let e : c * (r + 0) ≡ c * r = grind arith in omega arith

pub none-length : {A : Type 0} (l : List (Option A)) (n : ℕ) → l ≡ replicate n None → length l ≡ n
none-length {A} l n e = ap length e ∙ long n
  where
    long : (n : ℕ) → length (replicate {A = Option A} n None) ≡ n
    long zero = refl
    long (suc n) = ap suc (long n)

pub none-known : {A : Type 0} (l : List (Option A)) (n : ℕ) → l ≡ replicate n None → (k : ℕ) (o : A) → get_or l k None ≡ Some o → ⊥
none-known {A} l n e k o q = no n k (ap (λ (x : List (Option A)). get_or x k None) (sym e) ∙ q)
  where
    no : (n k : ℕ) → get_or (replicate {A = Option A} n None) k None ≡ Some o → ⊥
    no zero zero q = cc
    no zero (suc k) q = cc
    no (suc n) zero q = cc
    no (suc n) (suc k) q = no n k q
