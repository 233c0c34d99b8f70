use Rattle.syntect_pattern_linear.proofs.syntect_count_proofs.MeterLaws.{advances-on}
use Rattle.syntect_pattern_linear.proofs.fill.pay_row.Goals as goal

pub returns-in_err-spend-clause-advances : goal.returns-in_err-spend-clause-advances
returns-in_err-spend-clause-advances c =
    advances-on c.args.meter.now c.loop-time.meter c.spend.new.self c.loop-time.invariant.advances c.spend.ensures.advances
