use Rattle.std.proofs.Common.{◌≡◌, ◌++◌, chars}
use Rattle.std.specs.Prelude.{IsUtf8, string_bytes, encode_utf8_all}
use Rattle.std.specs.List.{flat_map}
use Rattle.std.specs.Str.Iter.{chars_rest}
use Rattle.syntect_regex.specs.Escape.{escaped_char, escaped}
use Rattle.syntect_regex.proofs.regex.escape.Given as goal

abbrev pub invariant-loop-c : goal.invariant-loop-c
invariant-loop-c l = record {
  utf8 : IsUtf8 (chars_rest l.c-iterator);
  pattern : string_bytes l.pattern ++ encode_utf8_all (flat_map escaped_char (chars (chars_rest l.c-iterator))) ≡ escaped l.text;
}
