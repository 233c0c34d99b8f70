use Rattle.std.proofs.Common.{◌++◌, List, ℕ, ap, ◌∙◌, codes}
use Rattle.syntect_theme.specs.Modifying.{bits_of}
use Rattle.syntect_writers.specs.Spans.{open_tag, css, color_property, background_text, flags_text, color_digits}
use Rattle.syntect_writers.proofs.SpanLaws.{six_joined, tag_joined}
use Rattle.syntect_writers.proofs.html.push_tag.Goals as goal

pub returns-clause-back : goal.returns-clause-back
unfolding open_tag css color_property
returns-clause-back c =
    six_joined _ (codes "<span style=\"") _ _ (codes "color:#") _ (codes ";\">") _ _ _ _ _ _ c.in_ok-push_str.ensures.back c.in_ok-push_background.ensures.back
    c.in_ok-push_flags.ensures.back c.in_ok-push_str-2.ensures.back c.in_ok-push_digits.ensures.back c.in_ok-push_str-3.ensures.back
    ∙ ap (λ (xs : List ℕ). c.args.out.now.back ++ xs) (tag_joined (background_text c.args.bg c.args.style) (flags_text (bits_of c.args.style.font_style)) (color_digits c.args.style.foreground))
