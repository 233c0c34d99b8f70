use Rattle.syntect_buffer.proofs.FreshLaws.{answer_at, answer_of_all, told_of}
use Rattle.syntect_buffer.proofs.buffer.LineBuffer.answer.Goals as goal

pub returns-clause-fresh : goal.returns-clause-fresh
returns-clause-fresh c =
    rw (← c.self.view_is) (λ definitions b.
    answer_at definitions c.self.inside.syntax_set.now c.self.inside.theme.now c.self.inside.syntax.now c.self.inside.kept c.args.place c.get.result.now c.self.invariant b c.get.ensures)

pub returns-clause-all : goal.returns-clause-all
returns-clause-all c =
    rw (← c.self.view_is) (λ definitions b n.
    answer_of_all definitions c.self.inside.syntax_set.now c.self.inside.theme.now c.self.inside.syntax.now c.self.inside.kept c.args.place c.get.result.now c.self.invariant b n c.get.ensures)

pub returns-clause-told : goal.returns-clause-told
returns-clause-told c =
    rw (← c.self.view_is) (told_of c.self.inside.syntax_set.now c.self.inside.theme.now c.self.inside.syntax.now c.self.inside.kept c.args.place c.get.result.now c.self.invariant c.get.ensures)
