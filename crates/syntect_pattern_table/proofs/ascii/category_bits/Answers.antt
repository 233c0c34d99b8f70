use Rattle.std.proofs.Common.{◌∙◌, ap, sym}
use Rattle.unicode.specs.GeneralCategory.{general_category, general_category_eq}
use Rattle.syntect_pattern_table.proofs.AsciiLaws.{capital_bits, small_bits, digit_bits, math_bits, connector_bits, no_bits}
use Rattle.syntect_pattern_table.proofs.ascii.category_bits.Goals as goal

pub returns-in-UppercaseLetter : goal.returns-in-UppercaseLetter
returns-in-UppercaseLetter c x l = capital_bits x l ∙ ap (λ k. general_category_eq k (general_category x)) (sym c.in-UppercaseLetter.is)

pub returns-in-LowercaseLetter : goal.returns-in-LowercaseLetter
returns-in-LowercaseLetter c x l = small_bits x l ∙ ap (λ k. general_category_eq k (general_category x)) (sym c.in-LowercaseLetter.is)

pub returns-in-DecimalNumber : goal.returns-in-DecimalNumber
returns-in-DecimalNumber c x l = digit_bits x l ∙ ap (λ k. general_category_eq k (general_category x)) (sym c.in-DecimalNumber.is)

pub returns-in-MathSymbol : goal.returns-in-MathSymbol
returns-in-MathSymbol c x l = math_bits x l ∙ ap (λ k. general_category_eq k (general_category x)) (sym c.in-MathSymbol.is)

pub returns-in-ConnectorPunctuation : goal.returns-in-ConnectorPunctuation
returns-in-ConnectorPunctuation c x l = connector_bits x l ∙ ap (λ k. general_category_eq k (general_category x)) (sym c.in-ConnectorPunctuation.is)

pub returns-in-TitlecaseLetter : goal.returns-in-TitlecaseLetter
returns-in-TitlecaseLetter c = no_bits c.args.category c.in-TitlecaseLetter.is
