use Rattle.std.proofs.Common.{refl, get_or, ap, sym, ◌∙◌}
use Rattle.std.proofs.lemmas.List.{get_or_append_left, get_or-append_right}
use Rattle.syntect_scope.specs.Packing.{places, places_in}
use Rattle.syntect_scope.proofs.AtomLaws.{atom_in_place}
use Rattle.syntect_scope.proofs.scope.Scope.atom_at.Goals as goal

pub returns-then-index-lt4 : goal.returns-then-index-lt4
returns-then-index-lt4 c =
    c.place.ensures ∙ sym (get_or_append_left (places 4 c.self.inside.high) (places 4 c.self.inside.low) 0 c.args.index c.if-index-lt4.true)
    ∙ sym (atom_in_place (places_in c.self.inside.high c.self.inside.low) c.args.index c.self.invariant.2) ∙ ap (λ s. get_or s c.args.index 0) c.self.view_is

pub returns-else-index-lt4 : goal.returns-else-index-lt4
returns-else-index-lt4 c =
    c.place-else-index-lt4.ensures ∙ sym (get_or-append_right (places 4 c.self.inside.high) (places 4 c.self.inside.low) 4 c.args.index 0 refl c.if-index-lt4.false)
    ∙ sym (atom_in_place (places_in c.self.inside.high c.self.inside.low) c.args.index c.self.invariant.2) ∙ ap (λ s. get_or s c.args.index 0) c.self.view_is
