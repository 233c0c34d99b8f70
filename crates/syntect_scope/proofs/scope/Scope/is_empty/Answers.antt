use Rattle.std.proofs.Common.{ℕ, ap, sym, ◌∙◌}
use Rattle.std.proofs.lemmas.Bool.Decides.{Decides-eqb}
use Rattle.syntect_scope.specs.Atoms.{atoms_in}
use Rattle.syntect_scope.specs.Packing.{places_in, high_of, high_back}
use Rattle.syntect_scope.proofs.scope.Scope.is_empty.Goals as goal

pub returns : goal.returns
returns c = (
  λ t. sym c.self.view_is ∙ ap (λ (n : ℕ). atoms_in (places_in n c.self.inside.low)) ((Decides-eqb c.self.inside.high 0).0 t),
  λ e. (Decides-eqb c.self.inside.high 0).1 (sym (high_back c.self.inside.high c.self.inside.low c.self.invariant.0 c.self.invariant.2) ∙ ap high_of (c.self.view_is ∙ e)),
)
