use Rattle.std.proofs.Common.{◌-◌, ◌∙◌, Err, ap, subst}
use Rattle.syntect_parsing.specs.States.{standing, turns_made, steps_made}
use Rattle.syntect_easy.specs.syntect_theme.declared.theme.Theme.{Theme}
use Rattle.syntect_easy.specs.syntect_grammar.declared.error.Error.{Error}
use Rattle.syntect_easy.specs.Leads.{Continues, reader_of}
use Rattle.syntect_easy.specs.PlainLines.{ArePlain}
use Rattle.syntect_easy.specs.Within.{ReachesLimit, RefusesNoReadFault, TellsWhere, refusal_of}
use Rattle.syntect_easy.specs.declared.within.HighlightWithinError.{HighlightWithinError}
use Rattle.syntect_easy.proofs.LeadLaws.{pasts_stay}
use Rattle.syntect_easy.proofs.PlainLaws.{reached_from}
use Rattle.syntect_easy.proofs.easy.HighlightLines.highlight_line_or_plain.Goals as goal

pub returns-in-Err-Refused-clause-refused : goal.returns-in-Err-Refused-clause-refused
returns-in-Err-Refused-clause-refused c = λ past h.
    subst (λ (e : Error). Continues past c.args.syntax_set.now c.args.line c.highlight_line_within.new.self (Err e)) (ap refusal_of c.in-Err-Refused.field-0-is) (c.in-Err-Refused.ensures.answered past h)

pub returns-in_ok-plain-in-Err-LimitReached-clause-answered : goal.returns-in_ok-plain-in-Err-LimitReached-clause-answered
returns-in_ok-plain-in-Err-LimitReached-clause-answered c = λ past h.
    let new = c.highlight_line_within.new.self in
    let same = c.in-Err-LimitReached.ensures.err in (
      pasts_stay past c.args.syntax_set.now c.args.self.now new same h,
      subst (λ (theme : Theme). ArePlain theme c.args.line.now c.in_ok-plain-in-Err-LimitReached.field-0.items) (same.theme ∙ h.leads.theme_is) c.in_ok-plain-in-Err-LimitReached.ensures,
      reached_from c.args.limits.now c.args.syntax_set.now c.args.line.now (standing (reader_of c.args.self.now)) c.in-Err-LimitReached.limit
          (turns_made (reader_of c.args.self.now)) (turns_made (reader_of new)) (steps_made (reader_of new) - steps_made (reader_of c.args.self.now)) c.in-Err-LimitReached.ensures.no_more
          (subst (λ (w : HighlightWithinError). ReachesLimit c.args.limits.now (turns_made (reader_of new) - turns_made (reader_of c.args.self.now)) (steps_made (reader_of new) - steps_made (reader_of c.args.self.now)) w) c.in-Err-LimitReached.field-0-is c.in-Err-LimitReached.ensures.reached)
          (subst (λ (w : HighlightWithinError). TellsWhere c.args.syntax_set.now c.args.line.now (standing (reader_of c.args.self.now)) w) c.in-Err-LimitReached.field-0-is c.in-Err-LimitReached.ensures.there),
    )

pub returns-in-Err-Refused-clause-no_fault : goal.returns-in-Err-Refused-clause-no_fault
returns-in-Err-Refused-clause-no_fault c =
    subst RefusesNoReadFault c.in-Err-Refused.field-0-is c.in-Err-Refused.ensures.no_fault
