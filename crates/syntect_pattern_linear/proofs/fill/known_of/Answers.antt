use Rattle.std.proofs.Common.{◌≡◌, ◌∙◌, arith, length}
use Rattle.syntect_pattern_linear.proofs.StepsLaws.{none-known, none-length, unknown-most}
use Rattle.syntect_pattern_linear.proofs.fill.known_of.Goals as goal

pub loop-late-init : goal.loop-late-init
loop-late-init c =
    let long : length c.in_ok-now.now.items ≡ length c.args.ground.now.plan.now.cells = none-length _ _ c.in_ok-now.ensures ∙ c.len-cells.ensures in
    let most = unknown-most c.in_ok-now.now.items in
    record {
      knows = λ k o e. absurd (none-known _ _ c.in_ok-now.ensures k o e);
      long = long;
      paid = omega (arith, long, most);
      counted = omega arith;
    }
