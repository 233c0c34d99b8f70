use Rattle.syntect_reading_choice.proofs.here.is_here.Goals as goal

pub returns-in-Err-clause-halts : goal.returns-in-Err-clause-halts
returns-in-Err-clause-halts c = c.halt_at.ensures c.match_at_known.new.meter c.in-Err.ensures.stops
