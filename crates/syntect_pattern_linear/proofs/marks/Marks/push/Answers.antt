use Rattle.std.proofs.Common.{◌++◌, ◌∷◌, [], List, Bool, ap, ◌∙◌}
use Rattle.syntect_pattern_linear.proofs.MarkLaws.{view-push}
use Rattle.syntect_pattern_linear.proofs.marks.Marks.push.Goals as goal

pub returns : goal.returns
returns c =
    let i = c.self.inside in
    view-push i.rows.rows.items c.place_of.new.self.rows.items i.places.items c.push.new.self.items c.in_ok-place.place c.args.row c.self.invariant
    c.place_of.ensures.stays c.in_ok-place.ensures.found c.in_ok-push.ensures.items
    ∙ ap (λ (l : List (List Bool)). l ++ c.args.row ∷ []) c.self.view_is
