use Rattle.std.proofs.Common.{◌≡◌, chars}
use Rattle.std.specs.Prelude.{IsUtf8}
use Rattle.std.specs.Str.Iter.{chars_rest}
use Rattle.syntect_grammar_rewrite.specs.Testing.{refers_back}
use Rattle.syntect_grammar_rewrite.proofs.ReferenceLaws.{refers_on}
use Rattle.syntect_grammar_rewrite.proofs.references.refers_back.Given as goal

abbrev pub invariant-loop-c : goal.invariant-loop-c
invariant-loop-c l = record {
  utf8 : IsUtf8 (chars_rest l.c-iterator);
  value : refers_on l.escaped (chars (chars_rest l.c-iterator)) ≡ refers_back l.text;
}
