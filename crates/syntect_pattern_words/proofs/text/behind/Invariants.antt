use Rattle.std.proofs.Common.{◌≡◌, drop}
use Rattle.std.specs.Prelude.{chars}
use denote.Text.{Utf8}
use denote.Shadow.{shadow}
use Rattle.syntect_pattern_words.specs.TextViews.{IsRest}
use Rattle.syntect_pattern_words.proofs.text.behind.Given as goal

abbrev pub invariant-letters : goal.invariant-letters
invariant-letters l = record {
  utf8 : shadow (Utf8 l.rest);
  rest : IsRest l.text l.rest;
  value : drop l.left (chars l.rest) ≡ drop l.count (chars l.text);
}

abbrev pub decreases-letters : goal.decreases-letters
decreases-letters l = l.left
