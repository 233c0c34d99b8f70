use Rattle.std.proofs.Common.{◌+◌, ◌-◌, ℕ, ap, ◌∙◌, arith, subst, sym, ◌≡◌}
use Rattle.syntect_parsing.specs.syntect_base.Limiting.{IsWithinLimit}
use Rattle.syntect_parsing.specs.Within.{ReachesLimit}
use Rattle.syntect_parsing.proofs.WorkLaws.{steps_since, most_since}
use Rattle.syntect_parsing.proofs.WithinLaws.{few_steps, reaches-limit, unless_stopped}
use Rattle.syntect_parsing.proofs.parser.read_adding.Goals as goal

pub returns-in-Ok-clause-steps : goal.returns-in-Ok-clause-steps
returns-in-Ok-clause-steps c =
    steps_since c.args.set.now c.args.line.now c.args.state.now _ _ _ _ _ c.meter_of-regions.ensures.made (c.add.ensures ∙ ap (λ n. c.args.steps.now.made + n) c.count.ensures) c.in-Ok.ensures.steps

pub returns-in-Err-clause-steps : goal.returns-in-Err-clause-steps
returns-in-Err-clause-steps c =
    unless_stopped c.in-Err.e _ _
    (steps_since c.args.set.now c.args.line.now c.args.state.now _ _ _ _ _ c.meter_of-regions.ensures.made (c.add.ensures ∙ ap (λ n. c.args.steps.now.made + n) c.count.ensures)) c.in-Err.ensures.steps

pub returns-in-Ok-clause-most_steps : goal.returns-in-Ok-clause-most_steps
returns-in-Ok-clause-most_steps c =
    most_since c.args.set.now c.args.line.now c.args.state.now _ _ _ _ c.meter_of-regions.ensures.made (c.add.ensures ∙ ap (λ n. c.args.steps.now.made + n) c.count.ensures) c.in-Ok.ensures.most_steps

pub returns-in-Err-clause-most_steps : goal.returns-in-Err-clause-most_steps
returns-in-Err-clause-most_steps c =
    unless_stopped c.in-Err.e _ _
    (most_since c.args.set.now c.args.line.now c.args.state.now _ _ _ _ c.meter_of-regions.ensures.made (c.add.ensures ∙ ap (λ n. c.args.steps.now.made + n) c.count.ensures)) c.in-Err.ensures.most_steps
