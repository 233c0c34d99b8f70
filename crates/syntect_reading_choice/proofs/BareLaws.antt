-- Levels without prototypes bring nothing.
use Rattle.std.proofs.Common.{◌≡◌, ℕ, zero, suc, ◌≤◌, List, [], ◌∷◌, ◌++◌, max, drop, refl, ap, sym, ◌∙◌, arith, inl, inr}
use Rattle.std.proofs.lemmas.Bool.{cases_lt}
use Rattle.std.specs.List.{flat_map}
use Rattle.syntect_reading_choice.specs.Bare.{AreBare}
use Rattle.syntect_reading_choice.specs.Parts.{level_parts}
use Rattle.syntect_reading_choice.specs.declared.level.Level.{Level}

-- those above the lowest one
above : (l : Level) (ls : List Level) (q : ℕ) → AreBare (suc q) (l ∷ ls) → AreBare q ls
above l ls q bare k d a b = bare (suc k) d (omega (arith, a)) (omega (arith, b))

lowest : (l : Level) (ls : List Level) (q : ℕ) → AreBare (suc q) (l ∷ ls) → l.prototypes ≡ []
lowest l ls q bare = bare 0 l (omega arith) (omega arith)

module _ {X : Type 0} (f : Level → List X) (none : (l : Level) → l.prototypes ≡ [] → f l ≡ []) where
  -- what is made of their prototypes is nothing,
  all_of : (q : ℕ) (ls : List Level) → AreBare q ls → flat_map f (drop q ls) ≡ flat_map f ls
  all_of zero ls bare = refl
  all_of (suc q) [] bare = refl
  all_of (suc q) (l ∷ ls) bare = all_of q ls (above l ls q bare) ∙ sym (ap (λ xs. xs ++ flat_map f ls) (none l (lowest l ls q bare)))

  -- and so it is from a height on
  from_height : (h q : ℕ) (ls : List Level) → h ≤ q → AreBare q ls → flat_map f (drop q ls) ≡ flat_map f (drop h ls)
  from_height zero q ls le bare = all_of q ls bare
  from_height (suc h) zero ls le bare = absurd (omega (arith, le))
  from_height (suc h) (suc q) [] le bare = refl
  from_height (suc h) (suc q) (l ∷ ls) le bare = from_height h q ls (omega (arith, le)) (above l ls q bare)

  -- or from where some have none
  from_higher : (h q m : ℕ) (ls : List Level) → m ≡ max h q → AreBare q ls → flat_map f (drop m ls) ≡ flat_map f (drop h ls)
  from_higher h q m ls e bare = elim (cases_lt h q) [
    | inl l ↦
        (let k : m ≡ q = omega (arith, e, l) in
        ap (λ n. flat_map f (drop n ls)) k ∙ from_height h q ls (omega (arith, l)) bare)
    | inr l ↦
        (let k : m ≡ h = omega (arith, e, l) in
        ap (λ n. flat_map f (drop n ls)) k)
  ]

pub no_prototypes : (h q m : ℕ) (ls : List Level) → m ≡ max h q → AreBare q ls → flat_map (λ (l : Level). l.prototypes) (drop m ls) ≡ flat_map (λ (l : Level). l.prototypes) (drop h ls)
no_prototypes h q m ls e bare = from_higher (λ (l : Level). l.prototypes) (λ l k. k) h q m ls e bare

pub no_parts : (h q m : ℕ) (ls : List Level) → m ≡ max h q → AreBare q ls → flat_map level_parts (drop m ls) ≡ flat_map level_parts (drop h ls)
no_parts h q m ls e bare = from_higher level_parts none h q m ls e bare
  where
    none : (l : Level) → l.prototypes ≡ [] → level_parts l ≡ []
    none l k = rw k refl
