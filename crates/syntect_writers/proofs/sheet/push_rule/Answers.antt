use Rattle.std.proofs.Common.{◌++◌, List, ℕ, ap, ◌∙◌, string_bytes, true}
use Rattle.syntect_writers.specs.Left.{rule_left}
use Rattle.syntect_writers.specs.Sheet.{path_selectors}
use Rattle.syntect_writers.proofs.SheetLaws.{left_all}
use Rattle.syntect_writers.proofs.sheet.push_rule.Goals as goal

pub loop-selector-init : goal.loop-selector-init
loop-selector-init c =
    let prefix = c.args.prefix.now in
    let repo = c.args.repository.now in
    let item = c.args.item.now in
    ap (λ l. string_bytes c.args.out.now ++ rule_left true (path_selectors prefix repo l) item.style) c.as_slice-selector-items.ensures
    ∙ ap (λ (l : List ℕ). string_bytes c.args.out.now ++ l) (left_all (path_selectors prefix repo item.scope.selectors) item.style)
