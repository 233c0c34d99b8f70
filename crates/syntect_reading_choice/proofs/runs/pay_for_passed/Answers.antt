use Rattle.syntect_reading_choice.proofs.runs.pay_for_passed.Goals as goal

pub returns-in-Err-clause-halts : goal.returns-in-Err-clause-halts
returns-in-Err-clause-halts c = c.halt_at.ensures c.spend.new.self c.in-Err.ensures.stops
