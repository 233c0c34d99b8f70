use Rattle.std.proofs.Common.{sym, true, false, append-nil}
use Rattle.std.specs.Prelude.{string_bytes}
use Rattle.std.specs.Str.Iter.{chars_rest}
use Rattle.std.proofs.lemmas.Str.{IsUtf8-past_char}
use Rattle.syntect_grammar_contexts.specs.Substitution.{substituted}
use Rattle.syntect_grammar_contexts.proofs.SubstitutionLaws.{past_behind, past_plain, is_backslash, is_other}
use Rattle.syntect_grammar_contexts.proofs.substitution.substituted.Goals as goal

pub loop-c-preserved-then-behind : goal.loop-c-preserved-then-behind
loop-c-preserved-then-behind c = record {
  utf8 = IsUtf8-past_char (chars_rest c.loop-c.c-iterator) (chars_rest c.next.new.self) c.in-Some.c c.loop-c.invariant.utf8 c.in-Some.ensures.steps.0;
  text = past_behind c.args.region.now c.args.text.now c.loop-c.c-iterator c.next.new.self c.in-Some.c c.loop-c.behind
      (string_bytes c.loop-c.out) (string_bytes c.push_replaced.new.out) (substituted c.args.pattern.now c.args.region.now c.args.text.now)
      c.loop-c.invariant.utf8 c.in-Some.ensures.steps.0 c.loop-c.invariant.text c.if-behind.true c.in_ok-push_replaced.ensures;
}

pub loop-c-preserved-then-c-eq92 : goal.loop-c-preserved-then-c-eq92
loop-c-preserved-then-c-eq92 c = record {
  utf8 = IsUtf8-past_char (chars_rest c.loop-c.c-iterator) (chars_rest c.next.new.self) c.in-Some.c c.loop-c.invariant.utf8 c.in-Some.ensures.steps.0;
  text = past_plain c.args.region.now c.args.text.now c.loop-c.c-iterator c.next.new.self c.in-Some.c c.loop-c.behind
      (string_bytes c.loop-c.out) (string_bytes c.loop-c.out) (substituted c.args.pattern.now c.args.region.now c.args.text.now)
      c.loop-c.invariant.utf8 c.in-Some.ensures.steps.0 c.loop-c.invariant.text true c.if-behind.false (is_backslash c.in-Some.c c.if-c-eq92.true) (sym (append-nil (string_bytes c.loop-c.out)));
}

pub loop-c-preserved : goal.loop-c-preserved
loop-c-preserved c = record {
  utf8 = IsUtf8-past_char (chars_rest c.loop-c.c-iterator) (chars_rest c.next.new.self) c.in-Some.c c.loop-c.invariant.utf8 c.in-Some.ensures.steps.0;
  text = rw c.if-behind.false
      (past_plain c.args.region.now c.args.text.now c.loop-c.c-iterator c.next.new.self c.in-Some.c c.loop-c.behind
      (string_bytes c.loop-c.out) (string_bytes c.push.new.self) (substituted c.args.pattern.now c.args.region.now c.args.text.now)
      c.loop-c.invariant.utf8 c.in-Some.ensures.steps.0 c.loop-c.invariant.text false c.if-behind.false (is_other c.in-Some.c c.if-c-eq92.false) c.in_ok-push.ensures.bytes);
}
