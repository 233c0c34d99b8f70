use Rattle.std.specs.Prelude.{chars}
use Rattle.std.proofs.Common.{◌≡◌, ◌-◌, ◌+◌, ◌*◌, length}
use denote.Text.{Utf8}
use denote.Shadow.{shadow}
use Rattle.syntect_pattern_table.specs.SetTable.{SetsGrow}
use Rattle.syntect_pattern_compile.specs.ClassViews.{bracket_as, IsBracketIn, rest_of}
use Rattle.syntect_pattern_compile.proofs.classes.SetBuilder.+class.Given as goal

abbrev pub decreases-class : goal.decreases-class
decreases-class l = 3 * (200 - l.depth)

abbrev pub decreases-step : goal.decreases-step
decreases-step l = 3 * (200 - l.depth) + 1

abbrev pub decreases-class_rest : goal.decreases-class_rest
decreases-class_rest l = 3 * (200 - l.depth) + 2

abbrev pub invariant-class_rest-steps : goal.invariant-class_rest-steps
invariant-class_rest-steps l = record {
  utf8 : shadow (Utf8 l.text);
  grows : SetsGrow l.fn.self.parts l.self.parts;
  inside : IsBracketIn l.self.parts l.bracket;
  reads : rest_of l.fold l.depth (bracket_as l.fn.self.parts l.fn.bracket) (chars l.fn.text) ≡ rest_of l.fold l.depth (bracket_as l.self.parts l.bracket) (chars l.text);
}

abbrev pub decreases-class_rest-steps : goal.decreases-class_rest-steps
decreases-class_rest-steps l = length (chars l.text)
