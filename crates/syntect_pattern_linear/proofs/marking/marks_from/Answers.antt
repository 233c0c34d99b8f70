use Rattle.std.proofs.Common.{◌∙◌, Bool, List, ℕ, Option, ap, map, subst, sym}
use Rattle.std.specs.Prelude.{is_some}
use Rattle.syntect_pattern_linear.specs.syntect_pattern_table.Program.{trees_of}
use Rattle.syntect_pattern_linear.specs.Marks.{AreMarks}
use Rattle.syntect_pattern_linear.proofs.MarkLaws.{marks-of}
use Rattle.syntect_pattern_linear.proofs.marking.marks_from.Goals as goal

pub returns-clause-marks : goal.returns-clause-marks
returns-clause-marks c =
    let s = c.args.text.now in
    let ts = trees_of c.args.program.now in
    let cells = c.args.plan.now.cells in
    let same = c.in_ok-marks-2.ensures ∙ ap (map (λ (r : List (Option ℕ)). map (λ (e : Option ℕ). is_some e) r)) c.as_slice.ensures.value in
    subst (λ (marks : List (List Bool)). AreMarks s ts cells marks) (sym same) (marks-of s ts cells c.in_ok-rows.rows.items c.in_ok-rows.ensures.rows)
