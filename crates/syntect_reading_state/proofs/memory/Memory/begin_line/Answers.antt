use Rattle.syntect_reading_state.proofs.memory.Memory.begin_line.Goals as goal

pub returns : goal.returns
returns c = λ set line. record { memos = c.forget.ensures set line; hints = c.forget-2.ensures line; depths = c.forget-3.ensures line }
