use Rattle.std.proofs.Common.{inl, inr}
use Rattle.std.proofs.lemmas.Bool.{cases_lt}
use Rattle.syntect_pattern_backtrack.proofs.LineLaws.{no_match}
use Rattle.syntect_pattern_backtrack.proofs.lines.next_start.Goals as goal

pub returns-then-lines-clause-skipped : goal.returns-then-lines-clause-skipped
returns-then-lines-clause-skipped c = λ k p q. elim (cases_lt k c.next_line-from.result) [
  | inl l ↦ no_match c.args.text.now c.utf8.text c.args.program.now (c.requires.lines c.if-lines.true) k (λ b. c.next_line-from.ensures.skipped k p l b)
  | inr g ↦ c.next_start_up_to.ensures.skipped k g q
]
