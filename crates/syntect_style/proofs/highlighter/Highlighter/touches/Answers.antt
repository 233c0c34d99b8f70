use Rattle.std.proofs.Common.{sym, ap, ◌∙◌}
use Rattle.std.specs.List.{list_any}
use Rattle.syntect_style.specs.syntect_scope.Atoms.{is_prefix}
use Rattle.syntect_style.specs.Rules.{last_rules, other_rules}
use Rattle.syntect_style.proofs.ContestTop.{bucket_any}
use Rattle.syntect_style.proofs.OtherLaws.{alike_more}
use Rattle.syntect_style.proofs.highlighter.Highlighter.touches.Goals as goal

pub returns : goal.returns
returns c = λ e stack.
    alike_more c.args.top (other_rules c.args.self.now) stack
    (sym (bucket_any c.args.top (last_rules (other_rules c.args.self.now))) ∙ sym (c.any_begins.ensures ∙ ap (λ rules. list_any (λ r. is_prefix r.scope c.args.top) rules) c.lasts_for.ensures) ∙ e)
