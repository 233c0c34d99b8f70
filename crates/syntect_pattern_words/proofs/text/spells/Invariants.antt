use Rattle.std.proofs.Common.{◌≡◌, drop, nat_eq}
use Rattle.std.specs.Prelude.{chars}
use lib.Pointwise.{pointwise}
use denote.Text.{Utf8}
use denote.Shadow.{shadow}
use Rattle.syntect_pattern_words.proofs.text.spells.Given as goal

abbrev pub invariant-loop-letter : goal.invariant-loop-letter
invariant-loop-letter l = record {
  utf8 : shadow (Utf8 l.rest);
  value : pointwise nat_eq (chars l.text) l.word ≡ pointwise nat_eq (chars l.rest) (drop l.letter-index l.word);
}
