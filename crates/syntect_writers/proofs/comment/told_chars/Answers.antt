use Rattle.std.proofs.lemmas.Str.{IsUtf8-past_char}
use Rattle.std.specs.Str.Iter.{chars_rest}
use Rattle.syntect_writers.proofs.CommentLaws.{next_told, last_told}
use Rattle.syntect_writers.proofs.comment.told_chars.Goals as goal

pub loop-c-preserved : goal.loop-c-preserved
loop-c-preserved c = record {
  utf8 = IsUtf8-past_char (chars_rest c.loop-c.c-iterator) (chars_rest c.next.new.self) c.in-Some.c c.loop-c.invariant.utf8 c.in-Some.ensures.steps.0;
  told = next_told c.loop-c.c-iterator c.next.new.self c.in-Some.c c.loop-c.kept.items c.keep.new.kept.items _ c.loop-c.invariant.utf8 c.in-Some.ensures.steps.0 c.in_ok-keep.ensures.told c.loop-c.invariant.told;
  whole = c.in_ok-keep.ensures.whole c.loop-c.invariant.whole;
}

pub returns : goal.returns
returns c = last_told c.loop-c.c-iterator c.loop-c.kept.items _ c.in-None.ensures.steps.0.0 c.loop-c.invariant.whole c.loop-c.invariant.told
