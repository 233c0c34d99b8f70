use Rattle.std.proofs.Common.{◌++◌, List, ℕ, chars, sym, ◌∙◌, ap, append-nil}
use Rattle.std.specs.Prelude.{string_bytes, encode_utf8_all}
use Rattle.std.specs.List.{flat_map}
use Rattle.std.specs.Str.Iter.{chars_rest}
use Rattle.std.proofs.lemmas.Str.{IsUtf8-past_char, encodes-append, chars_past_char}
use Rattle.std.proofs.lemmas.List.{append_assoc}
use Rattle.syntect_grammar_linker.specs.Unlinked.{quoted_char}
use Rattle.syntect_grammar_contexts.proofs.TextLaws.{chars_over}
use Rattle.syntect_grammar_linker.proofs.unlinked.between_quotes.Goals as goal

pub loop-c-preserved : goal.loop-c-preserved
loop-c-preserved c = record {
  utf8 = IsUtf8-past_char (chars_rest c.loop-c.c-iterator) (chars_rest c.next.new.self) c.in-Some.c c.loop-c.invariant.utf8 c.in-Some.ensures.steps.0;
  written =
      let left : List ℕ = flat_map quoted_char (chars (chars_rest c.next.new.self)) in
      ap (λ (bs : List ℕ). bs ++ encode_utf8_all left) c.in_ok-push_quoted.ensures
      ∙ append_assoc (string_bytes c.loop-c.out) (encode_utf8_all (quoted_char c.in-Some.c)) (encode_utf8_all left)
      ∙ ap (λ (bs : List ℕ). string_bytes c.loop-c.out ++ bs) (sym (encodes-append (quoted_char c.in-Some.c) left))
      ∙ ap (λ (cs : List ℕ). string_bytes c.loop-c.out ++ encode_utf8_all (flat_map quoted_char cs))
      (sym (chars_past_char (chars_rest c.loop-c.c-iterator) (chars_rest c.next.new.self) c.in-Some.c c.loop-c.invariant.utf8 c.in-Some.ensures.steps.0))
      ∙ c.loop-c.invariant.written;
}

pub returns : goal.returns
returns c =
    sym (append-nil (string_bytes c.loop-c.out))
    ∙ ap (λ (cs : List ℕ). string_bytes c.loop-c.out ++ encode_utf8_all (flat_map quoted_char cs)) (sym (chars_over c.loop-c.c-iterator c.in-None.ensures.steps.0.0))
    ∙ c.loop-c.invariant.written
