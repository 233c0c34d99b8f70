-- What a call that reads gives.
use Rattle.std.specs.Prelude.{◌≡◌, ℕ, ◌+◌, ◌<◌, ◌≤◌, List, length, Option, Some, None, Result, Ok, Err, IfOk}
use Rattle.std.specs.Borrow.{Bor}
use Rattle.syntect_yaml.specs.Lines.{Cursor}
use Rattle.syntect_yaml.specs.Text.{place_of}
use Rattle.syntect_yaml.specs.declared.place.Spot.{Spot}
use Rattle.syntect_yaml.specs.declared.error.Refusal.{Refusal}
use Rattle.syntect_yaml.specs.declared.error.Refusal.TheVariants.{At, Memory}

-- ---- For proofs and private functions alone ----

-- where memory ran out nothing is said
abbrev pub Fails : {B : Type 0} → Refusal → Option B → Type 0
Fails (At left) expected = expected ≡ None
Fails Memory expected = Unit {0}

-- the result, seen by f, is what is expected, unless memory ran out
abbrev pub Gives : {A B : Type 0} → (A → B) → Result A Refusal → Option B → Type 0
Gives f (Ok a) expected = expected ≡ Some (f a)
Gives f (Err e) expected = Fails e expected

-- the same of a value and what follows it
abbrev pub Reads : {A B : Type 0} → (A → B) → Result (A × Bor (List ℕ)) Refusal
    → Option (B × List ℕ) → Type 0
Reads f r expected = Gives (λ p. (f p.0, p.1.now)) r expected

-- something was read
abbrev pub Shortens : {A : Type 0} → List ℕ → Result (A × Bor (List ℕ)) Refusal → Type 0
Shortens t r = IfOk r (λ p. length p.1.now < length t)

-- the same of a value and the place after it
abbrev pub Finds : {A B : Type 0} → (A → B) → Result (A × Spot) Refusal → Option (B × Cursor)
    → Type 0
Finds f r expected = Gives (λ p. (f p.0, place_of p.1)) r expected

-- no more is left, also with what stands before the place in its line
abbrev pub Stays : {A : Type 0} → ℕ → Result (A × Spot) Refusal → Type 0
Stays n r = IfOk r (λ p. p.1.column + length p.1.rest.now ≤ n)
