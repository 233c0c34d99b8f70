use Rattle.std.proofs.Common.{◌≡◌, ◌+◌, ◌*◌, ◌∙◌, ap, sym, min, arith, List, ℕ}
use Rattle.std.specs.Prelude.{chars, fold}
use Rattle.std.specs.Char.{digit_value}
use Rattle.std.specs.Str.Iter.{chars_rest}
use Rattle.std.proofs.lemmas.Str.{IsUtf8-past_char, chars_past_char}
use Rattle.syntect_pattern_words.specs.declared.text.TheConstants.{LIMIT}
use Rattle.syntect_pattern_words.proofs.PartLaws.{folds-capped, chars-over}
use Rattle.syntect_pattern_words.proofs.text.number.Goals as goal

pub loop-c-preserved : goal.loop-c-preserved
loop-c-preserved c =
    let next : c.min-number.result ≡ min (c.loop-c.number * c.args.radix + digit_value c.in-Some.c) LIMIT = omega (arith, c.min-number.ensures, c.digit_value.ensures.value) in
    record {
      utf8 = IsUtf8-past_char (chars_rest c.loop-c.c-iterator) (chars_rest c.next.new.self) c.in-Some.c c.loop-c.invariant.utf8 c.in-Some.ensures.steps.0;
      small = omega arith;
      value =
          folds-capped c.args.radix LIMIT c.requires.low (chars (chars_rest c.next.new.self)) c.min-number.result (c.loop-c.number * c.args.radix + digit_value c.in-Some.c) (omega arith)
          ∙ ap (λ (t : List ℕ). min (fold (λ n d. n * c.args.radix + digit_value d) c.loop-c.number t) LIMIT)
          (sym (chars_past_char (chars_rest c.loop-c.c-iterator) (chars_rest c.next.new.self) c.in-Some.c c.loop-c.invariant.utf8 c.in-Some.ensures.steps.0))
          ∙ c.loop-c.invariant.value;
    }

pub returns : goal.returns
returns c =
    let same : c.loop-c.number ≡ min c.loop-c.number LIMIT = let h = c.loop-c.invariant.small in omega arith in
    same
    ∙ ap (λ (t : List ℕ). min (fold (λ n d. n * c.args.radix + digit_value d) c.loop-c.number t) LIMIT) (sym (chars-over c.loop-c.c-iterator c.in-None.ensures.steps.0.0))
    ∙ c.loop-c.invariant.value
