use Rattle.std.proofs.Common.{◌≡◌, ◌≤◌, length, reverse, take, find}
use Rattle.syntect_grammar.specs.Finding.{fits_line}
use Rattle.syntect_grammar.proofs.syntax_set.SyntaxSet.find_syntax_by_first_line.Given as goal

abbrev pub invariant-loop-left : goal.invariant-loop-left
invariant-loop-left l = record {
  within : l.left ≤ length l.syntaxes;
  same : find (fits_line l.line) (reverse (take l.left l.syntaxes)) ≡ find (fits_line l.line) (reverse l.syntaxes);
}

abbrev pub decreases-loop-left : goal.decreases-loop-left
decreases-loop-left l = l.left
