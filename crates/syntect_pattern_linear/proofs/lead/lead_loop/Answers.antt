use Rattle.std.proofs.Common.{◌≡◌, Bool, ap, sym, ◌∙◌}
use Rattle.std.specs.Prelude.{◌==◌, is_some}
use Rattle.syntect_pattern_plan.specs.Onward.{end_if, has_turn}
use Rattle.syntect_pattern_linear.specs.Ground.{ends_at}
use Rattle.syntect_pattern_linear.proofs.GroundLaws.{loop-goes, first-is, empty-is}
use Rattle.syntect_pattern_linear.proofs.LeadLaws.{same-lead, loop-turn, loop-leave}
use Rattle.syntect_pattern_linear.proofs.lead.lead_loop.Goals as goal

pub returns-then-turn : goal.returns-then-turn
returns-then-turn c =
    let x = c.args.ground.now in
    let first = first-is _ _ c.parts_at-parts.result c.args.cell c.parts_at-parts.ensures c.as_slice-2.ensures in
    let empty = empty-is _ _ c.cell_at-at.result c.args.cell c.cell_at-at.ensures c.as_slice.ensures in
    let g = loop-goes x c.args.place c.args.cell c.requires.ground c.args.greedy c.args.least c.args.most c.requires.turns.body c.requires.turns.at c.parts_at-parts.result.first c.cell_at-at.result.empty first empty in
    let turn = end_if (has_turn c.args.most) (ends_at x c.parts_at-parts.result.first c.args.place) in
    let leave = end_if (c.args.least == 0) (ends_at x c.cell_at-at.result.empty c.args.place) in
    let found : c.in_ok-turn.turn ≡ is_some turn = c.in_ok-turn.ensures ∙ ap (λ (b : Bool). is_some (end_if b (ends_at x c.parts_at-parts.result.first c.args.place))) c.may_turn.ensures in
    loop-turn c.args.greedy turn leave (sym found ∙ c.if-turn.true) ∙ ap is_some (sym g.0)

pub returns : goal.returns
returns c =
    let x = c.args.ground.now in
    let first = first-is _ _ c.parts_at-parts.result c.args.cell c.parts_at-parts.ensures c.as_slice-2.ensures in
    let empty = empty-is _ _ c.cell_at-at.result c.args.cell c.cell_at-at.ensures c.as_slice.ensures in
    let g = loop-goes x c.args.place c.args.cell c.requires.ground c.args.greedy c.args.least c.args.most c.requires.turns.body c.requires.turns.at c.parts_at-parts.result.first c.cell_at-at.result.empty first empty in
    let turn = end_if (has_turn c.args.most) (ends_at x c.parts_at-parts.result.first c.args.place) in
    let leave = end_if (c.args.least == 0) (ends_at x c.cell_at-at.result.empty c.args.place) in
    let found : c.in_ok-turn.turn ≡ is_some turn = c.in_ok-turn.ensures ∙ ap (λ (b : Bool). is_some (end_if b (ends_at x c.parts_at-parts.result.first c.args.place))) c.may_turn.ensures in
    same-lead c.lead_if-2.result (is_some leave) _ (loop-leave c.args.greedy turn leave (sym found ∙ c.if-turn.false) ∙ ap is_some (sym g.0)) c.lead_if-2.ensures
