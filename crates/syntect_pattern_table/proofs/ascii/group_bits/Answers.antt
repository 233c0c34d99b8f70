use Rattle.std.proofs.Common.{◌∙◌, ap, sym}
use Rattle.unicode.specs.GeneralCategory.{general_category}
use Rattle.unicode.specs.GeneralCategoryGroup.{in_group}
use Rattle.syntect_pattern_table.proofs.AsciiLaws.{letter_bits, number_bits, mark_bits}
use Rattle.syntect_pattern_table.proofs.ascii.group_bits.Goals as goal

pub returns-in-Letter : goal.returns-in-Letter
returns-in-Letter c x l = letter_bits x l ∙ ap (λ k. in_group k (general_category x)) (sym c.in-Letter.is)

pub returns-in-Number : goal.returns-in-Number
returns-in-Number c x l = number_bits x l ∙ ap (λ k. in_group k (general_category x)) (sym c.in-Number.is)

pub returns-in-Mark : goal.returns-in-Mark
returns-in-Mark c x l = mark_bits x l ∙ ap (λ k. in_group k (general_category x)) (sym c.in-Mark.is)
