use Rattle.syntect_style.proofs.ContestTop.{stands_bucket}
use Rattle.syntect_style.proofs.highlighter.Highlighter.raise.Goals as goal

pub returns : goal.returns
returns c = λ stack l h. record {
  foreground = stands_bucket (λ m. m.foreground) c.args.self.now stack c.args.top c.args.place _ _ _ c.rules_for.ensures l c.offer_rules.ensures.foreground h.foreground;
  background = stands_bucket (λ m. m.background) c.args.self.now stack c.args.top c.args.place _ _ _ c.rules_for.ensures l c.offer_rules.ensures.background h.background;
  font_style = stands_bucket (λ m. m.font_style) c.args.self.now stack c.args.top c.args.place _ _ _ c.rules_for.ensures l c.offer_rules.ensures.font_style h.font_style;
}
