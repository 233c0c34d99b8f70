use Rattle.std.proofs.Common.{◌≡◌, ◌≤◌, Bool, List, Option, Some, None, length, get_or, refl, sym, ◌∙◌, ap, arith}
use Rattle.syntect_regex.specs.syntect_pattern_table.Table.{trees}
use Rattle.syntect_regex.specs.Looks.{joined, met_before}
use Rattle.syntect_regex.proofs.syntect_pattern_table_proofs.LookLaws.{tree-is, parts-are}
use Rattle.syntect_regex.proofs.MarkLaws.{step_marked, step_unmarked}
use Rattle.syntect_regex.proofs.looks.pass_on.Goals as goal

pub returns-in_default-clause-passed : goal.returns-in_default-clause-passed
returns-in_default-clause-passed c = λ n.
    let marks : List (Option Bool) = c.args.marks.now.items in
    let mark : get_or marks c.args.place None ≡ None = ap (λ (ms : List (Option Bool)). get_or ms c.args.place None) (sym c.as_slice.ensures.value) ∙ sym c.mark_at.ensures ∙ c.in_default.is in
    step_unmarked (trees c.args.nodes.now) n marks c.args.place (get_or c.args.looks.now.items n None) mark

pub returns-clause-passed : goal.returns-clause-passed
returns-clause-passed c = λ n.
    let nodes = c.args.nodes.now in
    let marks : List (Option Bool) = c.args.marks.now.items in
    let place = c.args.place in
    let node = c.index-nodes-place.result in
    let old : Option Bool = get_or c.args.looks.now.items n None in
    let new : Option Bool = get_or c.mark_group.new.looks.items n None in
    let mark : get_or marks place None ≡ Some c.in-Some.within = ap (λ (ms : List (Option Bool)). get_or ms place None) (sym c.as_slice.ensures.value) ∙ sym c.mark_at.ensures ∙ c.in-Some.is in
    let room : place ≤ length marks = omega (arith, c.requires.room) in
    ap (λ (ms : List (Option Bool)). joined new (met_before ms (trees nodes) place n)) c.mark_parts.ensures
    ∙ step_marked (trees nodes) n node marks place c.in-Some.within old new
    (parts-are nodes c.requires.ordered place node c.requires.inside c.index-nodes-place.is node refl) room
    (tree-is nodes c.requires.ordered place node c.requires.inside c.index-nodes-place.is node refl) mark (c.in_ok-mark_group.ensures n)
