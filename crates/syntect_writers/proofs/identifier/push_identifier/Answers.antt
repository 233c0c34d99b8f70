use Rattle.std.proofs.Common.{◌≡◌, ◌++◌, List, ℕ, ap, sym, ◌∙◌}
use Rattle.std.specs.Prelude.{encode_utf8}
use Rattle.std.specs.Str.Iter.{chars_rest}
use Rattle.std.proofs.lemmas.Str.{IsUtf8-past_char}
use Rattle.syntect_writers.proofs.IdentifierLaws.{first_char, next_char, last_char}
use Rattle.syntect_writers.proofs.identifier.push_identifier.Goals as goal

pub loop-c-init : goal.loop-c-init
loop-c-init c =
    let same : chars_rest c.next.new.self ≡ chars_rest c.into_iter-c-iterator.result = ap chars_rest (sym c.into_iter-c-iterator.ensures.into_iter_gives) in
    let split : c.args.text.now ≡ encode_utf8 c.in-Some.head ++ chars_rest c.into_iter-c-iterator.result =
    sym c.chars-letters.ensures.rest ∙ c.in-Some.ensures.steps.0 ∙ ap (λ (l : List ℕ). encode_utf8 c.in-Some.head ++ l) same in
    record {
      utf8 = IsUtf8-past_char c.args.text.now (chars_rest c.into_iter-c-iterator.result) c.in-Some.head c.utf8.text split;
      written = first_char c.args.text.now (chars_rest c.into_iter-c-iterator.result) c.in-Some.head _ _ c.utf8.text split c.in_ok-push_char.ensures;
    }

pub loop-c-preserved : goal.loop-c-preserved
loop-c-preserved c = record {
  utf8 = IsUtf8-past_char (chars_rest c.loop-c.c-iterator) (chars_rest c.next-in-loop-c.new.self) c.in-Some-c.c c.loop-c.invariant.utf8 c.in-Some-c.ensures.steps.0;
  written = next_char c.loop-c.c-iterator c.next-in-loop-c.new.self c.in-Some-c.c _ _ _ c.loop-c.invariant.utf8 c.in-Some-c.ensures.steps.0 c.in_ok-push_char-2.ensures c.loop-c.invariant.written;
}

pub returns : goal.returns
returns c = last_char c.loop-c.c-iterator _ _ c.in-None.ensures.steps.0.0 c.loop-c.invariant.written
