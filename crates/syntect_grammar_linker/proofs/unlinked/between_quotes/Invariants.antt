use Rattle.std.proofs.Common.{◌≡◌, ◌++◌, chars}
use Rattle.std.specs.Prelude.{IsUtf8, string_bytes, encode_utf8_all}
use Rattle.std.specs.List.{flat_map}
use Rattle.std.specs.Str.Iter.{chars_rest}
use Rattle.syntect_grammar_linker.specs.Unlinked.{quoted_char, between_quotes}
use Rattle.syntect_grammar_linker.proofs.unlinked.between_quotes.Given as goal

abbrev pub invariant-loop-c : goal.invariant-loop-c
invariant-loop-c l = record {
  utf8 : IsUtf8 (chars_rest l.c-iterator);
  written : string_bytes l.out ++ encode_utf8_all (flat_map quoted_char (chars (chars_rest l.c-iterator))) ≡ between_quotes l.text;
}
