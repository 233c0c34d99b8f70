-- What is held, where something is.
use Rattle.std.specs.Prelude.{◌≡◌, Option, Some, None, is_some, true}
use Rattle.std.proofs.Common.{refl, sym, true≢false}

pub the_one : {X : Type 0} (held : Option X) → is_some held ≡ true → (x : X) × (held ≡ Some x)
the_one (Some x) is = (x, refl)
the_one None is = absurd (true≢false (sym is))
