use Rattle.syntect_callers.specs.syntect_writers.Lines.{text_left}
use Rattle.syntect_callers.proofs.ClassedSoFar.{ClassedSoFar}
use Rattle.syntect_callers.proofs.classed.classed_page_of.Given as goal

abbrev pub invariant-loop-line : goal.invariant-loop-line
invariant-loop-line l = ClassedSoFar l.set l.syntax l.repository l.style l.text (text_left l.line-iterator) l.generator
