use Rattle.std.proofs.Common.{true, false}
use Rattle.syntect_regex.proofs.BeginLaws.{none-compiled}
use Rattle.syntect_regex.proofs.outline.Outline.new.Goals as goal

pub returns : goal.returns
returns c = λ pattern is. record {
  begins = c.begins_of.ensures pattern is;
  edges = c.edges_of.ensures pattern is;
  lines = c.lines_of.ensures pattern is;
  words = rw c.in_ok-details.ensures (none-compiled false pattern c.in_ok-words.words c.args.program.now is c.in_ok-words.ensures);
  blanks = rw c.in_ok-details.ensures (none-compiled true pattern c.in_ok-blanks.blanks c.args.program.now is c.in_ok-blanks.ensures);
  groups = rw c.in_ok-details.ensures (c.in_ok-looks.ensures pattern is);
}
