use Rattle.std.proofs.Common.{rules, ◌≡◌, ◌∙◌, sym, true, false}
use Rattle.std.specs.Option.{is_some}
use Rattle.syntect_reading_choice.proofs.StepLaws.{if_none, if_some, over_paid, put_paid}
use Rattle.syntect_reading_choice.proofs.runs.replacement_paid.Goals as goal
use Rattle.syntect_reading_choice.proofs.runs.replacement_paid.Goals.{then-is_some, else-is_some}

pub returns-clause-steps : goal.returns-clause-steps
returns-clause-steps c = λ flat put same fits kept.
    let cost = c.in_ok-found.ensures.steps flat put same fits in
    let pays = c.in_ok-pay_for_passed.ensures.steps put in
    let stays = c.in_ok-pay_for_passed.ensures.same in
    elim c.if-is_some.branch [
      | then-is_some w ↦
          let found : is_some c.in_ok-found.found ≡ true = search rules in
          let paid =
          put_paid c.args.meter.now.made c.replacement.new.meter.made c.pay_for_passed.new.meter.made c.args.passed.now.count c.pay_for_passed.new.passed.count put
          (if_some c.in_ok-found.found _ found c.in_ok-found.ensures.least) cost (λ l. rw w.passed-is at (pays (λ e. l))) in
          (λ e. paid.0, paid.1)
      | else-is_some w ↦
          let found : is_some c.in_ok-found.found ≡ false = search rules in
          let was = rw w.passed-is at stays in (
            λ e. kept (sym was ∙ e),
            over_paid c.args.meter.now.made c.replacement.new.meter.made c.pay_for_passed.new.meter.made c.args.passed.now.count c.if-is_some.passed.count c.pay_for_passed.new.passed.count put
                (if_none c.in_ok-found.found _ found c.in_ok-found.ensures.none) (search rules) (pays (λ e. kept (rw w.passed-is at e))),
          )
    ]
