use Rattle.std.proofs.Common.{◌++◌, List, ℕ, chars, sym, ◌∙◌, ap, append-nil}
use Rattle.std.specs.Prelude.{string_bytes, encode_utf8_all}
use Rattle.std.specs.List.{flat_map}
use Rattle.std.specs.Str.Iter.{chars_rest}
use Rattle.std.proofs.lemmas.Str.{IsUtf8-past_char, encodes-append}
use Rattle.std.proofs.lemmas.List.{append_assoc}
use Rattle.syntect_regex.specs.Escape.{escaped_char}
use Rattle.syntect_regex.proofs.syntect_pattern_steps_proofs.TextLaws.{chars-next, chars-over}
use Rattle.syntect_regex.proofs.regex.escape.Goals as goal

pub loop-c-preserved : goal.loop-c-preserved
loop-c-preserved c = record {
  utf8 = IsUtf8-past_char (chars_rest c.loop-c.c-iterator) (chars_rest c.next.new.self) c.in-Some.c c.loop-c.invariant.utf8 c.in-Some.ensures.steps.0;
  pattern =
      let left : List ℕ = flat_map escaped_char (chars (chars_rest c.next.new.self)) in
      ap (λ (bs : List ℕ). bs ++ encode_utf8_all left) c.in_ok-push_escaped.ensures
      ∙ append_assoc (string_bytes c.loop-c.pattern) (encode_utf8_all (escaped_char c.in-Some.c)) (encode_utf8_all left)
      ∙ ap (λ (bs : List ℕ). string_bytes c.loop-c.pattern ++ bs) (sym (encodes-append (escaped_char c.in-Some.c) left))
      ∙ ap (λ (cs : List ℕ). string_bytes c.loop-c.pattern ++ encode_utf8_all (flat_map escaped_char cs))
      (sym (chars-next c.loop-c.c-iterator c.next.new.self c.in-Some.c c.loop-c.invariant.utf8 c.in-Some.ensures.steps.0))
      ∙ c.loop-c.invariant.pattern;
}

pub returns : goal.returns
returns c =
    sym (append-nil (string_bytes c.loop-c.pattern))
    ∙ ap (λ (cs : List ℕ). string_bytes c.loop-c.pattern ++ encode_utf8_all (flat_map escaped_char cs)) (sym (chars-over c.loop-c.c-iterator c.in-None.ensures.steps.0.0))
    ∙ c.loop-c.invariant.pattern
