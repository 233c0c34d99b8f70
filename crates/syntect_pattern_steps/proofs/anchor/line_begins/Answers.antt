use Rattle.std.proofs.Common.{◌∙◌, ◌-◌, ℕ, List, ap, get_or, sym}
use Rattle.syntect_pattern_steps.proofs.LineLaws.{no_line}
use Rattle.syntect_pattern_steps.proofs.anchor.line_begins.Goals as goal

pub returns-then-as_bytes-place-ne10 : goal.returns-then-as_bytes-place-ne10
returns-then-as_bytes-place-ne10 c =
    sym (no_line c.args.text.now c.utf8.text c.args.place c.if-place-eq0.false
    (λ e. c.if-as_bytes-place-ne10.true (ap (λ (t : List ℕ). get_or t (c.args.place - 1) 0) c.as_bytes.ensures.value ∙ e)) c.requires)
