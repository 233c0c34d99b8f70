use Rattle.std.proofs.Common.{◌&&◌, Bool, refl, ap, sym, ◌∙◌}
use Rattle.syntect_scope.specs.Atoms.{atoms_in, is_prefix}
use Rattle.syntect_scope.specs.Packing.{places, places_in}
use Rattle.syntect_scope.proofs.AtomLaws.{packed_back}
use Rattle.syntect_scope.proofs.PackingLaws.{begins_append}
use Rattle.syntect_scope.proofs.scope.Scope.is_prefix_of.Goals as goal

pub begins-requires-then-begins : goal.begins-requires-then-begins
begins-requires-then-begins c = packed_back (places 4 c.self.inside.high) (places 4 c.self.inside.low) c.self.invariant.2

pub returns-then-begins : goal.returns-then-begins
returns-then-begins c =
    let low : Bool = is_prefix (atoms_in (places 4 c.self.inside.low)) (atoms_in (places 4 c.s.inside.low)) in
    c.begins-then-begins.ensures ∙ ap (λ b. b && low) (sym c.if-begins.true ∙ c.begins.ensures)
    ∙ sym (begins_append (places 4 c.self.inside.high) (places 4 c.s.inside.high) (places 4 c.self.inside.low) (places 4 c.s.inside.low) refl c.self.invariant.2)
    ∙ ap (λ s. is_prefix s (atoms_in (places_in c.s.inside.high c.s.inside.low))) c.self.view_is ∙ ap (is_prefix c.args.self) c.s.view_is

pub returns-else-begins : goal.returns-else-begins
returns-else-begins c =
    let low : Bool = is_prefix (atoms_in (places 4 c.self.inside.low)) (atoms_in (places 4 c.s.inside.low)) in
    c.if-begins.false ∙ ap (λ b. b && low) (sym c.if-begins.false ∙ c.begins.ensures)
    ∙ sym (begins_append (places 4 c.self.inside.high) (places 4 c.s.inside.high) (places 4 c.self.inside.low) (places 4 c.s.inside.low) refl c.self.invariant.2)
    ∙ ap (λ s. is_prefix s (atoms_in (places_in c.s.inside.high c.s.inside.low))) c.self.view_is ∙ ap (is_prefix c.args.self) c.s.view_is
