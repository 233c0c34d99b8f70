use Rattle.std.proofs.Common.{◌≡◌, IsCharBoundary, chars}
use Rattle.std.specs.Prelude.{IsUtf8}
use Rattle.std.specs.Str.Iter.{chars_rest}
use Rattle.syntect_pattern.specs.Matches.{Groups, spelled}
use Rattle.syntect_pattern_steps.proofs.text.past_text.Given as goal

abbrev pub invariant-loop-c : goal.invariant-loop-c
invariant-loop-c l = record {
  utf8 : IsUtf8 (chars_rest l.c-iterator);
  boundary : IsCharBoundary l.text l.place;
  value : (g : Groups) → spelled l.text l.fold (chars (chars_rest l.c-iterator)) l.place g ≡ spelled l.text l.fold (chars l.wanted) l.fn.place g;
}
