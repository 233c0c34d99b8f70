use Rattle.std.proofs.Common.{Ordering, nat_cmp, ap, sym, ◌∙◌}
use Rattle.std.specs.Cmp.Lexicographic.{slice_cmp}
use Rattle.std.specs.Ordering.{ordering_then}
use Rattle.syntect_scope.specs.Atoms.{atoms_in}
use Rattle.syntect_scope.specs.Packing.{places_in}
use Rattle.syntect_scope.proofs.PackingLaws.{scope_cmp}
use Rattle.syntect_scope.proofs.scope.ScopeOrd.cmp.Goals as goal

pub returns : goal.returns
returns c =
    c.then.ensures ∙ ap (λ (o : Ordering). ordering_then o c.cmp-2.result) c.cmp.ensures ∙ ap (ordering_then (nat_cmp c.self.inside.high c.other.inside.high)) c.cmp-2.ensures
    ∙ sym (scope_cmp c.self.inside.high c.self.inside.low c.other.inside.high c.other.inside.low c.self.invariant.0 c.self.invariant.1 c.other.invariant.0 c.other.invariant.1 c.self.invariant.2 c.other.invariant.2)
    ∙ ap (λ s. slice_cmp nat_cmp s (atoms_in (places_in c.other.inside.high c.other.inside.low))) c.self.view_is ∙ ap (slice_cmp nat_cmp c.args.self.now) c.other.view_is
