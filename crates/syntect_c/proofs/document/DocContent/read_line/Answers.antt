use Rattle.std.proofs.Common.{◌≡◌, ◌∙◌, List, ℕ, Some, ap, refl, subst, sym}
use Rattle.syntect_assets.specs.Assets.{theme_named}
use Rattle.syntect_c.proofs.DocLaws.{answered_after}
use Rattle.syntect_c.proofs.document.DocContent.read_line.Goals as goal

pub returns-in-Ok-answer-clause-read : goal.returns-in-Ok-answer-clause-read
returns-in-Ok-answer-clause-read c = λ past assets is stands.
    let named : theme_named c.in_ok-assets.assets.now c.args.self.now.theme ≡ Some c.in-Ok.theme.now =
    subst (λ (name : List ℕ). theme_named c.in_ok-assets.assets.now name ≡ Some c.in-Ok.theme.now)
    c.as_str.ensures c.in-Ok.ensures.found in
    record {
      text = c.args.line;
      text_is = refl;
      before = c.in_ok-lines.lines;
      after = c.read-answer.new.lines;
      answers = answered_after past c.args.set.now.stage c.in_ok-assets.assets.now assets c.in-Ok.theme.now
          c.args.line c.args.self.now c.in-Some.field-0
          c.in_ok-lines.lines c.read-answer.new.lines c.in-Ok-answer.spans.items
          c.in_ok-assets.ensures is named
          (sym c.take.ensures.value ∙ c.in-Some.is) stands
          c.in_ok-lines.ensures.leads c.in-Ok-answer.ensures.answered;
      states = c.states_of.result;
      states_is = refl;
      holds = c.states_of.ensures;
    }
