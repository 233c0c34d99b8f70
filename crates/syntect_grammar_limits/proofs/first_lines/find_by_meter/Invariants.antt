use Rattle.std.proofs.Common.{◌≡◌, ◌≤◌, List, drop, length, take}
use Rattle.std.specs.Prelude.{None}
use Rattle.syntect_grammar.specs.Finding.{last_fitting}
use Rattle.syntect_grammar.specs.Finding as finding
use Rattle.syntect_grammar.specs.Link.{syntaxes_in}
use Rattle.syntect_grammar_limits.specs.syntect_count.Meter.{Advances}
use Rattle.syntect_grammar_limits.proofs.first_lines.find_by_meter.Given as goal

abbrev pub invariant-loop-left : goal.invariant-loop-left
invariant-loop-left l = record {
  found : last_fitting (finding.fits_line l.line) (syntaxes_in l.set) ≡ last_fitting (finding.fits_line l.line) (take l.left (syntaxes_in l.set));
  none : last_fitting (finding.fits_line l.line) (drop l.left (syntaxes_in l.set)) ≡ None;
  few : l.left ≤ length (syntaxes_in l.set);
  advances : Advances l.fn.meter l.meter;
}

abbrev pub decreases-loop-left : goal.decreases-loop-left
decreases-loop-left l = l.left
