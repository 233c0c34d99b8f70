use Rattle.syntect_easy.proofs.easy.HighlightLines.highlight_line.Goals as goal

pub returns-in-Err-clause-answered : goal.returns-in-Err-clause-answered
returns-in-Err-clause-answered c = λ past h. rw c.refusal.ensures (c.in-Err.ensures.answered past h)

pub returns-in-Err-clause-refused : goal.returns-in-Err-clause-refused
returns-in-Err-clause-refused c = λ past h n s. rw c.refusal.ensures (c.in-Err.ensures.refused past h n s)
