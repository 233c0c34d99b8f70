use Rattle.std.proofs.Common.{refl, sym, ◌∙◌}
use Rattle.syntect_pattern_table.proofs.LengthLaws.{lengths-class, lengths-narrow}
use Rattle.syntect_pattern_table.proofs.lengths.lengths_of_one.Goals as goal

pub returns-then-wide : goal.returns-then-wide
returns-then-wide c = λ a e. lengths-class a _ refl refl

pub returns-else-wide : goal.returns-else-wide
returns-else-wide c = λ a e. lengths-narrow a _ refl refl (sym e ∙ c.if-wide.false)
