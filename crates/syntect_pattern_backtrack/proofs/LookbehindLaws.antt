-- The starts of a lookbehind that need not be tried.
use Rattle.std.proofs.Common.{◌≡◌, ◌<◌, ◌≤◌, ◌+◌, ◌-◌, ℕ, zero, suc, Bool, true, false, List, [], ◌∷◌, min, inl, inr, refl, sym, ◌∙◌, ap, subst, arith, Some, None, ne_eqb}
use Rattle.std.specs.Prelude.{slice_get, if◌then◌else◌}
use Rattle.std.specs.Option.{option_or}
use Rattle.std.proofs.lemmas.Bool.{cases_lt}
use Rattle.syntect_pattern_backtrack.specs.syntect_pattern.Trees.{Tree}
use Rattle.syntect_pattern_backtrack.specs.syntect_pattern.Matches.{Groups, Member, matches, ending_at}
use Rattle.syntect_pattern_backtrack.proofs.syntect_pattern_proofs.Each.{Each}
use Rattle.syntect_pattern_backtrack.specs.syntect_pattern_table.Lengths.{HasLengths}
use Rattle.syntect_pattern_backtrack.specs.syntect_pattern_table.declared.lengths.Lengths.{Lengths}
use Rattle.syntect_pattern_backtrack.proofs.syntect_pattern_table_proofs.LengthLaws.{least-each, most-each}
use Rattle.syntect_pattern_backtrack.specs.Machine.{Work, On, none, done, tick, both, work_if, ends_at, at_places, at_start, is_start, search}
use Rattle.syntect_pattern_backtrack.specs.Lookbehinds.{AreEnough}
use Rattle.syntect_pattern_backtrack.proofs.FirstLaws.{search-first, ends-first}

-- the first places find what all find, in no more steps
pub record Few (w x : Work) : Type 0 where
  pub found : w.found ≡ x.found
  pub count : w.count ≤ x.count

places-none : (k : On) (g : Groups) (m i : ℕ) → m ≤ suc i → ((q : ℕ) → q ≤ i → (k q g).found ≡ None) → (at_places k m i g).found ≡ None
unfolding both tick none
places-none k g zero i l h = refl
places-none k g (suc m) zero l h =
    let over : m ≡ 0 = omega arith in
    ap (λ f. option_or f (at_places k m (0 - 1) g).found) (h 0 (omega arith)) ∙ ap (λ (n : ℕ). (at_places k n (0 - 1) g).found) over
places-none k g (suc m) (suc i) l h =
    let before : suc i - 1 ≡ i = omega arith in
    ap (λ f. option_or f (at_places k m (suc i - 1) g).found) (h (suc i) (omega arith))
    ∙ ap (λ (j : ℕ). (at_places k m j g).found) before
    ∙ places-none k g m i (omega arith) (λ q p. h q (omega arith))

few-places : (k : On) (g : Groups) (n m i : ℕ) → n + m ≡ suc i → ((q : ℕ) → q + n ≤ i → (k q g).found ≡ None) → Few (at_places k n i g) (at_places k (suc i) i g)
unfolding both tick none
few-places k g zero m i e h = record {
  found = sym (places-none k g (suc i) i (omega arith) (λ q p. h q (omega arith)));
  count = omega arith;
}
few-places k g (suc n) m zero e h =
    let over : 0 ≡ n = omega arith in
    subst (λ (x : ℕ). Few (at_places k (suc x) 0 g) (at_places k 1 0 g)) over (record { found = refl; count = omega arith })
few-places k g (suc n) m (suc i) e h =
    let before : i ≡ suc i - 1 = omega arith in
    let r : Few (at_places k n i g) (at_places k (suc i) i g) = few-places k g n m i (omega arith) (λ q p. h q (omega arith)) in
    let count : (at_places k n i g).count ≤ (at_places k (suc i) i g).count = r.count in
    subst (λ (j : ℕ). Few (both (tick (k (suc i) g)) (at_places k n j g)) (both (tick (k (suc i) g)) (at_places k (suc i) j g))) before (record {
      found = ap (λ f. option_or (k (suc i) g).found f) r.found;
      count = omega arith;
    })

-- the last places, of which none finds anything, may be left out
few-near : (k : On) (g : Groups) (i j : ℕ) → i ≤ j → ((q : ℕ) → i < q → q ≤ j → (k q g).found ≡ None) → Few (at_places k (suc i) i g) (at_places k (suc j) j g)
unfolding both tick none
few-near k g i zero l h =
    let same : 0 ≡ i = omega arith in
    subst (λ (q : ℕ). Few (at_places k (suc q) q g) (at_places k 1 0 g)) same (record { found = refl; count = omega arith })
few-near k g i (suc j) l h = elim (cases_lt i (suc j)) [
  | inl m ↦
      let before : j ≡ suc j - 1 = omega arith in
      let r : Few (at_places k (suc i) i g) (at_places k (suc j) j g) = few-near k g i j (omega arith) (λ q p b. h q p (omega arith)) in
      let count : (at_places k (suc i) i g).count ≤ (at_places k (suc j) j g).count = r.count in
      subst (λ (q : ℕ). Few (at_places k (suc i) i g) (both (tick (k (suc j) g)) (at_places k (suc j) q g))) before (record {
        found = r.found ∙ sym (ap (λ f. option_or f (at_places k (suc j) j g).found) (h (suc j) m (omega arith)));
        count = omega arith;
      })
  | inr m ↦
      let same : suc j ≡ i = omega arith in
      subst (λ (q : ℕ). Few (at_places k (suc q) q g) (at_places k (suc (suc j)) (suc j) g)) same (record { found = refl; count = omega arith })
]

few-both : (w x y : Work) → Few w x → Few x y → Few w y
few-both w x y a b =
    let p : w.count ≤ x.count = a.count in
    let q : x.count ≤ y.count = b.count in
    record { found = a.found ∙ b.found; count = omega arith }

ending-before : (e n : ℕ) (ms : List Member) → n < e → Each (λ m. m.0 ≤ n) ms → ending_at e ms ≡ []
ending-before e n [] l w = refl
ending-before e n (m ∷ ms) l w =
    let p : m.0 ≤ n = w.0 in
    ap (λ b. if b then m ∷ ending_at e ms else ending_at e ms) (ne_eqb m.0 e (λ x. omega arith)) ∙ ending-before e n ms l w.1

ending-behind : (e n : ℕ) (ms : List Member) → e < n → Each (λ m. n ≤ m.0) ms → ending_at e ms ≡ []
ending-behind e n [] l w = refl
ending-behind e n (m ∷ ms) l w =
    let p : n ≤ m.0 = w.0 in
    ap (λ b. if b then m ∷ ending_at e ms else ending_at e ms) (ne_eqb m.0 e (λ x. omega arith)) ∙ ending-behind e n ms l w.1

module _ (a : Tree) (l : Lengths) (long : HasLengths a l) (place : ℕ) where
  near-none : (s : List ℕ) (q : ℕ) (g : Groups) → place < q + l.least → ending_at place (matches s a q g) ≡ []
  near-none s q g h = ending-behind place (q + l.least) (matches s a q g) h (least-each a l.least long.least s q g)

  far-none : (most : ℕ) → l.most ≡ Some most → (s : List ℕ) (q : ℕ) (g : Groups) → q + most < place → ending_at place (matches s a q g) ≡ []
  far-none most e s q g h = ending-before place (q + most) (matches s a q g) h (most-each a most (long.most most e) s q g)

  -- the text before the place is too short
  pub enough-none : place < l.least → AreEnough a place place 0
  enough-none h = record {
    before = omega arith;
    inside = omega arith;
    near = λ s q g b. near-none s q g (omega arith);
    far = λ s q g b. near-none s q g (omega arith);
  }

  -- a tree of which no match is longer than this
  pub enough-most : (most n : ℕ) → l.most ≡ Some most → l.least ≤ place → n ≡ min (most - l.least) (place - l.least) + 1 → AreEnough a place (place - l.least) n
  enough-most most n e h is = record {
    before = omega arith;
    inside = omega (arith, is);
    near = λ s q g b. near-none s q g (omega arith);
    far = λ s q g b. far-none most e s q g (omega (arith, is));
  }

  -- all places that are far enough
  pub enough-all : l.least ≤ place → AreEnough a place (place - l.least) (place - l.least + 1)
  enough-all h = record {
    before = omega arith;
    inside = omega arith;
    near = λ s q g b. near-none s q g (omega arith);
    far = λ s q g b. absurd (omega arith);
  }

module _ (s : List ℕ) (a : Tree) (e from n : ℕ) (enough : AreEnough a e from n) (g : Groups) where
  abbrev Start : On
  Start = at_start s (search s a) (ends_at e done)

  start-none : (q : ℕ) → ending_at e (matches s a q g) ≡ [] → (Start q g).found ≡ None
  unfolding none
  start-none q h = go (is_start s q)
    where
      go : (b : Bool) → (work_if b (search s a (ends_at e done) q g)).found ≡ None
      go true = search-first s a (ends_at e done) q g ∙ ends-first e (matches s a q g) ∙ ap (λ (ms : List Member). slice_get ms 0) h
      go false = refl

  -- so many starts are enough
  pub few-starts : Few (at_places (at_start s (search s a) (ends_at e done)) n from g) (at_places (at_start s (search s a) (ends_at e done)) (suc e) e g)
  few-starts =
      let inside : n ≤ suc from = enough.inside in
      few-both (at_places Start n from g) (at_places Start (suc from) from g) (at_places Start (suc e) e g)
      (few-places Start g n (suc from - n) from (omega arith) (λ q l. start-none q (enough.far s q g l)))
      (few-near Start g from e enough.before (λ q l b. start-none q (enough.near s q g l)))
