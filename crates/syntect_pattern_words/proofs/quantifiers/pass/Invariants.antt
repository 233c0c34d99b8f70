use Rattle.std.specs.Prelude.{chars}
use Rattle.std.proofs.Common.{◌≡◌, length}
use denote.Text.{Utf8}
use denote.Shadow.{shadow}
use Rattle.syntect_pattern.specs.Reading.{pass, between}
use Rattle.syntect_pattern_words.specs.QuantifierViews.{passing_as}
use Rattle.syntect_pattern_words.proofs.quantifiers.pass.Given as goal

abbrev pub invariant-passes : goal.invariant-passes
invariant-passes l = record {
  utf8 : shadow (Utf8 l.text);
  value : pass l.spaced between (chars l.fn.text) ≡ pass l.spaced (passing_as l.passing) (chars l.text);
}

abbrev pub decreases-passes : goal.decreases-passes
decreases-passes l = length (chars l.text)
