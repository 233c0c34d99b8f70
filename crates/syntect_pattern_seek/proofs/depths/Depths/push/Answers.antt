use Rattle.std.proofs.Common.{List, sym, subst}
use Rattle.syntect_pattern_seek.specs.Depths.{AreDepthsIn}
use Rattle.syntect_pattern_seek.specs.declared.depths.Depth.{Depth}
use Rattle.syntect_pattern_seek.proofs.DepthLaws.{one-more}
use Rattle.syntect_pattern_seek.proofs.depths.Depths.push.Goals as goal

pub returns : goal.returns
returns c = λ text before one.
    let mid = subst (λ (l : List Depth). AreDepthsIn text l) (sym c.self.view_is) (c.make_room.ensures text before) in
    subst (λ (l : List Depth). AreDepthsIn text l) (sym c.in_ok-push.ensures.items) (one-more text c.self.inside.kept.items c.args.depth mid one)
