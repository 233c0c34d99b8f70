use Rattle.std.proofs.Common.{◌≡◌, drop}
use Rattle.syntect_style.specs.Rules.{after_top, candidate_from}
use Rattle.syntect_style.proofs.contest.offer_rules.Given as goal

abbrev pub invariant-loop-rule : goal.invariant-loop-rule
invariant-loop-rule l = record {
  foreground : after_top (λ m. m.foreground) l.top l.place (candidate_from l.best.foreground) (drop l.rule-index l.rules) ≡ after_top (λ m. m.foreground) l.top l.place (candidate_from l.fn.best.foreground) l.rules;
  background : after_top (λ m. m.background) l.top l.place (candidate_from l.best.background) (drop l.rule-index l.rules) ≡ after_top (λ m. m.background) l.top l.place (candidate_from l.fn.best.background) l.rules;
  font_style : after_top (λ m. m.font_style) l.top l.place (candidate_from l.best.font_style) (drop l.rule-index l.rules) ≡ after_top (λ m. m.font_style) l.top l.place (candidate_from l.fn.best.font_style) l.rules;
}
