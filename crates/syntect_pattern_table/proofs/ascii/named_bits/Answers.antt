use Rattle.std.proofs.Common.{◌∙◌, ap, sym}
use Rattle.syntect_pattern.specs.Sets.{holds}
use Rattle.syntect_pattern.specs.NamedSets.{set_of_named}
use Rattle.syntect_pattern_table.proofs.AsciiLaws.{word_bits, space_bits, letter_number_bits}
use Rattle.syntect_pattern_table.proofs.ascii.named_bits.Goals as goal

pub returns-in-Word : goal.returns-in-Word
returns-in-Word c x l = word_bits x l ∙ ap (λ n. holds (set_of_named n) x) (sym c.in-Word.is)

pub returns-in-Space : goal.returns-in-Space
returns-in-Space c x l = space_bits x l ∙ ap (λ n. holds (set_of_named n) x) (sym c.in-Space.is)

pub returns-in-LetterOrNumber : goal.returns-in-LetterOrNumber
returns-in-LetterOrNumber c x l = letter_number_bits x l ∙ ap (λ n. holds (set_of_named n) x) (sym c.in-LetterOrNumber.is)
