use Rattle.std.proofs.Common.{◌≡◌, ◌&&◌, ◌==◌, ap, sym, ◌∙◌, inl, inr}
use Rattle.std.proofs.lemmas.Bool.Decides.{eqb_tells}
use Rattle.std.specs.Cmp.Lexicographic.{pointwise}
use Rattle.syntect_scope.specs.Atoms.{atoms_in}
use Rattle.syntect_scope.specs.Packing.{places_in}
use Rattle.syntect_scope.proofs.PackingLaws.{same_scope}
use Rattle.syntect_scope.proofs.scope.ScopePartialEq.eq.Goals as goal

pub returns-then-self-other : goal.returns-then-self-other
returns-then-self-other c =
    let whole : ((c.self.inside.high == c.other.inside.high) && (c.self.inside.low == c.other.inside.low)) ≡ pointwise ◌==◌ c.args.self.now c.args.other.now =
    same_scope c.self.inside.high c.self.inside.low c.other.inside.high c.other.inside.low c.self.invariant.0 c.self.invariant.1 c.other.invariant.0 c.other.invariant.1 c.self.invariant.2 c.other.invariant.2
    ∙ ap (λ s. pointwise ◌==◌ s (atoms_in (places_in c.other.inside.high c.other.inside.low))) c.self.view_is ∙ ap (pointwise ◌==◌ c.args.self.now) c.other.view_is in
    elim (eqb_tells c.self.inside.high c.other.inside.high) [
      | inl e ↦ ap (λ b. b && (c.self.inside.low == c.other.inside.low)) (sym e.0) ∙ whole
      | inr e ↦ absurd (e.1 c.if-self-other.true)
    ]

pub returns-else-self-other : goal.returns-else-self-other
returns-else-self-other c =
    let whole : ((c.self.inside.high == c.other.inside.high) && (c.self.inside.low == c.other.inside.low)) ≡ pointwise ◌==◌ c.args.self.now c.args.other.now =
    same_scope c.self.inside.high c.self.inside.low c.other.inside.high c.other.inside.low c.self.invariant.0 c.self.invariant.1 c.other.invariant.0 c.other.invariant.1 c.self.invariant.2 c.other.invariant.2
    ∙ ap (λ s. pointwise ◌==◌ s (atoms_in (places_in c.other.inside.high c.other.inside.low))) c.self.view_is ∙ ap (pointwise ◌==◌ c.args.self.now) c.other.view_is in
    elim (eqb_tells c.self.inside.high c.other.inside.high) [
      | inl e ↦ absurd (c.if-self-other.false e.1)
      | inr e ↦ e.0 ∙ ap (λ b. b && (c.self.inside.low == c.other.inside.low)) (sym e.0) ∙ whole
    ]
