use Rattle.std.proofs.Common.{[]}
use Rattle.syntect_grammar_lists.specs.Entered.{AreMarksOf}
use Rattle.syntect_grammar_lists.proofs.entered.marks_of.Given as goal

abbrev pub invariant-loop-syntax : goal.invariant-loop-syntax
invariant-loop-syntax l = AreMarksOf l.marks.items []
