use Rattle.std.proofs.Common.{sym, ◌∙◌}
use Rattle.syntect_parsing.specs.States.{standing}
use Rattle.syntect_parsing.proofs.StateLaws.{no_count, standings}
use Rattle.syntect_parsing.proofs.parser.is_same_state.Goals as goal

pub returns : goal.returns
returns c =
    let d = standings (standing c.args.a.now) (standing c.args.b.now) in
    (λ e. d.0 ((no_count _).0 (sym c.eq.ensures ∙ e)), λ e. c.eq.ensures ∙ (no_count _).1 (d.1 e))
