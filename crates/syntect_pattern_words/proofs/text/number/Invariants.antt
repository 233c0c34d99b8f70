use Rattle.std.proofs.Common.{◌≡◌, ◌≤◌, ◌+◌, ◌*◌, min}
use Rattle.std.specs.Prelude.{IsUtf8, chars, fold}
use Rattle.std.specs.Char.{digit_value}
use Rattle.std.specs.Str.Iter.{chars_rest}
use Rattle.syntect_pattern.specs.Reading.{value}
use Rattle.syntect_pattern_words.specs.declared.text.TheConstants.{LIMIT}
use Rattle.syntect_pattern_words.proofs.text.number.Given as goal

abbrev pub invariant-loop-c : goal.invariant-loop-c
invariant-loop-c l = record {
  utf8 : IsUtf8 (chars_rest l.c-iterator);
  small : l.number ≤ LIMIT;
  value : min (fold (λ n d. n * l.radix + digit_value d) l.number (chars (chars_rest l.c-iterator))) LIMIT ≡ min (value l.radix (chars l.digits)) LIMIT;
}
