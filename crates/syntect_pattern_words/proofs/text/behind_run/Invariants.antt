use Rattle.std.proofs.Common.{◌≡◌, length}
use Rattle.std.specs.Prelude.{chars}
use denote.Text.{Utf8}
use denote.Shadow.{shadow}
use Rattle.syntect_pattern.specs.Reading.{run}
use Rattle.syntect_pattern_words.specs.Views.{passes}
use Rattle.syntect_pattern_words.specs.TextViews.{IsRest}
use Rattle.syntect_pattern_words.proofs.text.behind_run.Given as goal

abbrev pub invariant-letters : goal.invariant-letters
invariant-letters l = record {
  utf8 : shadow (Utf8 l.rest);
  rest : IsRest l.text l.rest;
  value : (run (passes l.test) (chars l.text)).1 ≡ (run (passes l.test) (chars l.rest)).1;
}

abbrev pub decreases-letters : goal.decreases-letters
decreases-letters l = length l.rest
