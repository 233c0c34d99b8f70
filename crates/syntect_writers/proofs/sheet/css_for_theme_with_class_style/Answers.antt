use Rattle.std.proofs.Common.{ap, ◌∙◌}
use Rattle.std.specs.List.{list_all}
use Rattle.syntect_writers.specs.Classes.{prefix_of}
use Rattle.syntect_writers.specs.Comment.{after_comment, stays_inside}
use Rattle.syntect_writers.specs.Sheet.{sheet_text}
use Rattle.syntect_writers.proofs.SheetInside.{comment_passed, sheet_inside}
use Rattle.syntect_writers.proofs.sheet.css_for_theme_with_class_style.Goals as goal

pub returns-clause-comment : goal.returns-clause-comment
returns-clause-comment c =
    ap after_comment c.in_ok-sheet.ensures ∙ ap (λ p. after_comment (sheet_text p c.args.repository.now c.args.theme.now)) c.prefix.ensures ∙ comment_passed (prefix_of c.args.style) c.args.repository.now c.args.theme.now

pub returns-clause-inside : goal.returns-clause-inside
returns-clause-inside c =
    ap (list_all stays_inside) c.in_ok-sheet.ensures ∙ sheet_inside c.prefix.result.now c.args.repository.now c.args.theme.now
