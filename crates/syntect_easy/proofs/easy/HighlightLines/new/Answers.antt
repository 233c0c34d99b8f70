use Rattle.std.proofs.Common.{◌∙◌}
use Rattle.syntect_easy.proofs.LeadLaws.{leads-none}
use Rattle.syntect_easy.proofs.easy.HighlightLines.new.Goals as goal

pub returns-clause-leads : goal.returns-clause-leads
returns-clause-leads c = λ set.
    leads-none set c.args.theme.now c.args.syntax.now _ c.in_ok-parse_state.ensures.found (c.new-highlight_state.ensures.path ∙ c.new-3.ensures) c.in_ok-highlighter.ensures
    (rw c.in_ok-highlighter.ensures at c.new-highlight_state.ensures.keeps)
