use Rattle.std.proofs.Common.{ap, ◌∙◌, string_bytes}
use Rattle.std.specs.List.{list_all}
use Rattle.syntect_documents.specs.syntect_writers.Comment.{stays_inside}
use Rattle.syntect_documents.proofs.SheetLaws.{two_inside}
use Rattle.syntect_documents.proofs.sheet.sheet_for_light_and_dark.Goals as goal

pub returns-clause-inside : goal.returns-clause-inside
returns-clause-inside c =
    two_inside c.args.by c.as_str.result.now c.as_str-2.result.now (string_bytes c.in_ok-sheet.sheet) c.in_ok-sheet.ensures (ap (list_all stays_inside) c.as_str.ensures.value ∙ c.in_ok-light_sheet.ensures.inside)
    (ap (list_all stays_inside) c.as_str-2.ensures.value ∙ c.in_ok-dark_sheet.ensures.inside)
