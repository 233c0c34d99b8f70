use Rattle.std.proofs.Common.{◌≡◌, ◌++◌, chars}
use Rattle.std.specs.Prelude.{IsUtf8, string_bytes, encode_utf8_all}
use Rattle.std.specs.List.{flat_map}
use Rattle.std.specs.Str.Iter.{chars_rest}
use Rattle.syntect_writers.specs.Latex.{latex_char, latex_text}
use Rattle.syntect_writers.proofs.latex.push_text.Given as goal

-- what is written, and the rest of the text, are the whole
abbrev pub invariant-loop-c : goal.invariant-loop-c
invariant-loop-c l = record {
  utf8 : IsUtf8 (chars_rest l.c-iterator);
  written : string_bytes l.out ++ encode_utf8_all (flat_map latex_char (chars (chars_rest l.c-iterator))) ≡ string_bytes l.fn.out ++ latex_text l.fn.text;
}
