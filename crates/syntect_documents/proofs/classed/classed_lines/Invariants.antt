use Rattle.std.proofs.Common.{string_bytes}
use Rattle.syntect_documents.specs.syntect_parsing.States.{standing}
use Rattle.syntect_documents.specs.syntect_writers.Classes.{prefix_of}
use Rattle.syntect_documents.specs.syntect_writers.Lines.{text_left}
use Rattle.syntect_documents.proofs.ClassedLaws.{IsSoFar}
use Rattle.syntect_documents.proofs.classed.classed_lines.Given as goal

-- the page has the lines so far
abbrev pub invariant-loop-number : goal.invariant-loop-number
invariant-loop-number l =
    IsSoFar l.limits l.fn.form l.set l.syntax l.fn.classes.repository.now (prefix_of l.fn.classes.style) l.text (text_left l.lines) (string_bytes l.page) l.number l.first (standing l.state) l.stack
