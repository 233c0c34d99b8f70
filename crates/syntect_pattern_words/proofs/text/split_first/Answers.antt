use Rattle.syntect_pattern_words.proofs.PartLaws.{begins-with}
use Rattle.syntect_pattern_words.proofs.text.split_first.Goals as goal

pub returns : goal.returns
returns c =
    begins-with c.args.text.now c.as_str.result.now c.chars-letters.result c.next.new.self c.in_ok-c.c c.utf8.text c.chars-letters.ensures.rest
    c.in_ok-c.ensures.steps.0 c.as_str.ensures
