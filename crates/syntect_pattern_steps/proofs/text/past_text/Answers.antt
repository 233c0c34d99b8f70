use Rattle.std.proofs.Common.{◌+◌, Option, IsCharBoundary, ℕ, List, chars, sym, subst, ◌∙◌, ap}
use Rattle.syntect_pattern_steps.specs.Steps.{at_end}
use Rattle.std.specs.Str.Iter.{chars_rest}
use Rattle.std.proofs.lemmas.Str.{IsUtf8-past_char}
use Rattle.syntect_pattern.specs.Matches.{spelled}
use Rattle.syntect_pattern_steps.proofs.TextLaws.{spelled-none, spelled-other, spelled-next, chars-next, chars-over}
use Rattle.syntect_pattern_steps.proofs.text.past_text.Goals as goal

pub returns-in_err-next-clause-value : goal.returns-in_err-next-clause-value
returns-in_err-next-clause-value c = λ g.
    sym (c.loop-c.invariant.value g)
    ∙ ap (λ (t : List ℕ). spelled c.args.text.now c.args.fold t c.loop-c.place g) (chars-next c.loop-c.c-iterator c.next.new.self c.in-Some.c c.loop-c.invariant.utf8 c.in-Some.ensures.steps.0)
    ∙ spelled-none c.args.text.now c.args.fold c.in-Some.c _ c.loop-c.place (sym c.in_err-next.ensures.value) g
    ∙ ap (λ (o : Option ℕ). at_end o g) (sym c.from_residual.ensures)

pub returns-then-not-are_equal-clause-value : goal.returns-then-not-are_equal-clause-value
returns-then-not-are_equal-clause-value c = λ g.
    sym (c.loop-c.invariant.value g)
    ∙ ap (λ (t : List ℕ). spelled c.args.text.now c.args.fold t c.loop-c.place g) (chars-next c.loop-c.c-iterator c.next.new.self c.in-Some.c c.loop-c.invariant.utf8 c.in-Some.ensures.steps.0)
    ∙ spelled-other c.args.text.now c.args.fold c.in-Some.c _ c.loop-c.place c.in_ok-next.next (sym c.in_ok-next.ensures.value) (sym c.are_equal.ensures ∙ c.if-not-are_equal.true) g

pub loop-c-preserved : goal.loop-c-preserved
loop-c-preserved c = record {
  utf8 = IsUtf8-past_char (chars_rest c.loop-c.c-iterator) (chars_rest c.next.new.self) c.in-Some.c c.loop-c.invariant.utf8 c.in-Some.ensures.steps.0;
  boundary = subst (λ (n : ℕ). IsCharBoundary c.args.text.now (c.loop-c.place + n)) (sym c.len_utf8-place.ensures.value) c.in_ok-next.ensures.behind;
  value = λ g.
      sym (sym (c.loop-c.invariant.value g)
      ∙ ap (λ (t : List ℕ). spelled c.args.text.now c.args.fold t c.loop-c.place g) (chars-next c.loop-c.c-iterator c.next.new.self c.in-Some.c c.loop-c.invariant.utf8 c.in-Some.ensures.steps.0)
      ∙ spelled-next c.args.text.now c.args.fold c.in-Some.c _ c.loop-c.place c.in_ok-next.next (sym c.in_ok-next.ensures.value) (sym c.are_equal.ensures ∙ c.if-not-are_equal.false) g
      ∙ ap (λ (n : ℕ). spelled c.args.text.now c.args.fold (chars (chars_rest c.next.new.self)) (c.loop-c.place + n) g) (sym c.len_utf8-place.ensures.value));
}

pub returns-clause-value : goal.returns-clause-value
returns-clause-value c = λ g.
    sym (c.loop-c.invariant.value g)
    ∙ ap (λ (t : List ℕ). spelled c.args.text.now c.args.fold t c.loop-c.place g) (chars-over c.loop-c.c-iterator c.in-None.ensures.steps.0.0)
