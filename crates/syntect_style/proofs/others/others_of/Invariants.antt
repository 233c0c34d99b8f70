use Rattle.std.proofs.Common.{◌≡◌, drop, map, None}
use Rattle.syntect_style.specs.Rules.{after_others, other_from, rule_from}
use Rattle.syntect_style.proofs.others.others_of.Given as goal

abbrev pub invariant-loop-other : goal.invariant-loop-other
invariant-loop-other l = record {
  foreground : after_others (λ m. m.foreground) l.stack (other_from l.best.foreground) (map rule_from (drop l.other-index l.others)) ≡ after_others (λ m. m.foreground) l.stack None (map rule_from l.others);
  background : after_others (λ m. m.background) l.stack (other_from l.best.background) (map rule_from (drop l.other-index l.others)) ≡ after_others (λ m. m.background) l.stack None (map rule_from l.others);
  font_style : after_others (λ m. m.font_style) l.stack (other_from l.best.font_style) (map rule_from (drop l.other-index l.others)) ≡ after_others (λ m. m.font_style) l.stack None (map rule_from l.others);
}
