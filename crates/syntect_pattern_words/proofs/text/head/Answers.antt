use Rattle.std.proofs.Common.{ap, ◌∙◌}
use Rattle.std.specs.Prelude.{chars, slice_get}
use Rattle.syntect_pattern.specs.Reading.{first}
use Rattle.syntect_pattern_words.proofs.text.head.Goals as goal

pub returns : goal.returns
unfolding first
returns c = c.next.ensures.steps.2 ∙ ap (λ t. slice_get (chars t) 0) c.chars.ensures.rest
