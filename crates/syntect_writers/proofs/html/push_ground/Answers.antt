use Rattle.std.proofs.Common.{codes}
use Rattle.syntect_writers.specs.Spans.{color_property, color_digits}
use Rattle.syntect_writers.proofs.SpanLaws.{three_joined}
use Rattle.syntect_writers.proofs.html.push_ground.Goals as goal

pub returns-clause-back : goal.returns-clause-back
unfolding color_property
returns-clause-back c =
    three_joined _ (codes "background-color:#") (color_digits c.args.color) (codes ";") _ _ _ c.in_ok-push_str.ensures.back c.in_ok-push_digits.ensures.back c.in_ok-push_str-2.ensures.back
