use Rattle.std.proofs.Common.{◌==◌, ℕ, List, ap, sym, ◌∙◌}
use Rattle.std.specs.List.{starts_with}
use Rattle.syntect_grammar.specs.Finding.{mark}
use Rattle.syntect_grammar.proofs.FindLaws.{mark_boundary}
use Rattle.syntect_grammar.proofs.finders.without_mark.Goals as goal

pub split_at-requires : goal.split_at-requires
split_at-requires c =
    mark_boundary c.args.line.now c.utf8.line
    (ap (λ (s : List ℕ). starts_with ◌==◌ s mark) (sym c.as_bytes.ensures.value) ∙ sym c.starts_with.ensures.value ∙ c.if-starts_with.true)
