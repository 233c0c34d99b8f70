use Rattle.std.specs.Str.Iter.{chars_rest}
use Rattle.std.proofs.lemmas.Str.{IsUtf8-past_char}
use Rattle.syntect_writers.specs.Latex.{latex_char}
use Rattle.syntect_writers.proofs.CharLaws.{past_char, past_chars}
use Rattle.syntect_writers.proofs.latex.push_text.Goals as goal

pub loop-c-preserved : goal.loop-c-preserved
loop-c-preserved c = record {
  utf8 = IsUtf8-past_char (chars_rest c.loop-c.c-iterator) (chars_rest c.next.new.self) c.in-Some.c c.loop-c.invariant.utf8 c.in-Some.ensures.steps.0;
  written = past_char latex_char c.loop-c.c-iterator c.next.new.self c.in-Some.c _ _ _ c.loop-c.invariant.utf8 c.in-Some.ensures.steps.0 c.in_ok-push_char.ensures c.loop-c.invariant.written;
}

pub returns : goal.returns
returns c = past_chars latex_char c.loop-c.c-iterator _ _ c.in-None.ensures.steps.0.0 c.loop-c.invariant.written
