use Rattle.std.proofs.Common.{◌≡◌, drop, nat_eq}
use Rattle.std.specs.Prelude.{chars}
use Rattle.std.specs.List.{starts_with}
use denote.Text.{Utf8}
use denote.Shadow.{shadow}
use Rattle.syntect_pattern_words.proofs.text.begins.Given as goal

abbrev pub invariant-loop-letter : goal.invariant-loop-letter
invariant-loop-letter l = record {
  utf8 : shadow (Utf8 l.rest);
  value : starts_with nat_eq (chars l.text) l.wanted ≡ starts_with nat_eq (chars l.rest) (drop l.letter-index l.wanted);
}
