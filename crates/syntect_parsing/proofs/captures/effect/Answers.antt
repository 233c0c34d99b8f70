use Rattle.std.proofs.Common.{true, false, sym, ◌∙◌}
use Rattle.syntect_parsing.specs.MatchViews.{live_of}
use Rattle.syntect_parsing.proofs.CapturedLaws.{effect_is}
use Rattle.syntect_parsing.proofs.captures.effect.Goals as goal

pub returns-then-has_effect-clause-stands : goal.returns-then-has_effect-clause-stands
returns-then-has_effect-clause-stands c =
    effect_is (live_of c.args.taken.now) c.args.group c.args.taken.now.region.now c.in_ok-at.at true (sym c.pos.ensures ∙ c.in_ok-at.was) (sym c.if-has_effect.true ∙ c.has_effect.ensures.stands)

pub returns-else-has_effect-clause-stands : goal.returns-else-has_effect-clause-stands
returns-else-has_effect-clause-stands c =
    effect_is (live_of c.args.taken.now) c.args.group c.args.taken.now.region.now c.in_ok-at.at false (sym c.pos.ensures ∙ c.in_ok-at.was) (sym c.if-has_effect.false ∙ c.has_effect.ensures.stands)
