use Rattle.std.proofs.Common.{◌∷◌, [], List, sym, ap, subst, arith, length, length-append}
use Rattle.syntect_pattern_table.specs.Table.{trees}
use Rattle.syntect_pattern_table.specs.Jumps.{AreJumps}
use Rattle.syntect_pattern_table.specs.declared.jumps.Jump.{Jump}
use Rattle.syntect_pattern_table.proofs.JumpLaws.{AreJumps-push}
use Rattle.syntect_pattern_table.proofs.jumps.jumps_of.Goals as goal

pub loop-place-preserved : goal.loop-place-preserved
loop-place-preserved c = record {
  count = omega (arith, ap length c.in_ok-push.ensures.items, length-append c.loop-place.jumps.items (c.jump_from-next.result ∷ []), c.loop-place.invariant.count);
  jumps = subst (λ (js : List Jump). AreJumps c.args.from js (trees c.args.nodes.now)) (sym c.in_ok-push.ensures.items)
      (AreJumps-push c.args.from c.loop-place.jumps.items (trees c.args.nodes.now) c.jump_from-next.result c.loop-place.place c.loop-place.invariant.jumps c.loop-place.invariant.count c.jump_from-next.ensures);
}
