use Rattle.std.proofs.Common.{◌≡◌, ◌++◌, chars}
use Rattle.std.specs.Prelude.{IsUtf8, string_bytes}
use Rattle.std.specs.Str.Iter.{chars_rest}
use Rattle.syntect_grammar_contexts.specs.Substitution.{substituted_from, substituted}
use Rattle.syntect_grammar_contexts.proofs.substitution.substituted.Given as goal

abbrev pub invariant-loop-c : goal.invariant-loop-c
invariant-loop-c l = record {
  utf8 : IsUtf8 (chars_rest l.c-iterator);
  text : string_bytes l.out ++ substituted_from l.region l.text l.behind (chars (chars_rest l.c-iterator)) ≡ substituted l.pattern l.region l.text;
}
