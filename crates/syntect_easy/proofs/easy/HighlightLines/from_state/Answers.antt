use Rattle.std.proofs.Common.{sym, ◌∙◌}
use Rattle.syntect_easy.proofs.LeadLaws.{leads-resumed}
use Rattle.syntect_easy.proofs.easy.HighlightLines.from_state.Goals as goal

pub returns-clause-leads : goal.returns-clause-leads
returns-clause-leads c = λ past set h t p e f.
    record { built = p.built; leads = leads-resumed set past.theme past.syntax past.lines past.answers h _ e f (c.in_ok-ready.ensures ∙ sym t) p.leads }
