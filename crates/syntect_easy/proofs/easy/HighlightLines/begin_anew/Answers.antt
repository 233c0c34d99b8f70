use Rattle.std.proofs.Common.{refl, ◌∙◌}
use Rattle.syntect_easy.proofs.LeadLaws.{leads-none}
use Rattle.syntect_easy.proofs.easy.HighlightLines.begin_anew.Goals as goal

pub returns-clause-leads : goal.returns-clause-leads
returns-clause-leads c = λ set.
    leads-none set c.args.self.now.highlighter c.args.syntax.now _ c.in_ok-self.ensures.found (c.new-3.ensures.path ∙ c.new-2.ensures) refl
    c.new-3.ensures.keeps
