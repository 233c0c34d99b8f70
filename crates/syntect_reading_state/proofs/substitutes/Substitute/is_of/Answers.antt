use Rattle.std.proofs.Common.{sym, ◌∙◌}
use Rattle.std.specs.Prelude.{string_bytes}
use Rattle.syntect_reading_state.proofs.SubstituteLaws.{put_in_same}
use Rattle.syntect_reading_state.proofs.substitutes.Substitute.is_of.Goals as goal

pub returns-then-is_same_text : goal.returns-then-is_same_text
returns-then-is_same_text c = λ e.
    sym c.self.view_is ∙ c.self.invariant
    ∙ put_in_same (string_bytes c.self.inside.pattern) c.args.pattern.now.regex c.self.inside.opening c.args.opening.now
    (sym c.as_str.ensures.value ∙ c.is_same_text.ensures c.if-is_same_text.true ∙ c.regex_str.ensures) (sym c.eq.ensures ∙ e)
