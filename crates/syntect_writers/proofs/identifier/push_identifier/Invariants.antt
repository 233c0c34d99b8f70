use Rattle.std.proofs.Common.{◌≡◌, ◌++◌, chars, false}
use Rattle.std.specs.Prelude.{IsUtf8, string_bytes}
use Rattle.std.specs.List.{flat_map}
use Rattle.std.specs.Str.Iter.{chars_rest}
use Rattle.syntect_writers.specs.Identifier.{identifier_char, identifier}
use Rattle.syntect_writers.proofs.identifier.push_identifier.Given as goal

-- what is written, and the rest of the text, are the whole
abbrev pub invariant-loop-c : goal.invariant-loop-c
invariant-loop-c l = record {
  utf8 : IsUtf8 (chars_rest l.c-iterator);
  written : string_bytes l.out ++ flat_map (identifier_char false) (chars (chars_rest l.c-iterator)) ≡ string_bytes l.fn.out ++ identifier l.fn.text;
}
