use Rattle.syntect_reading_state.proofs.memory.Memory.new.Goals as goal

pub returns : goal.returns
returns c = λ set line. record { memos = c.new.ensures set line; hints = c.new-2.ensures line; depths = c.new-3.ensures line }
