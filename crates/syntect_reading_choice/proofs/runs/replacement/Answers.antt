use Rattle.syntect_reading_choice.proofs.runs.replacement.Goals as goal

pub returns-in-Err-clause-halts : goal.returns-in-Err-clause-halts
returns-in-Err-clause-halts c = c.halt_at.ensures c.substituted.new.meter c.in-Err.ensures.stops
