use Rattle.std.proofs.Common.{length}
use Rattle.syntect_pattern_compile.proofs.ReaderLaws.{items-new}
use Rattle.syntect_pattern_compile.proofs.reader.Reader.firm.Goals as goal

pub returns-clause-inside : goal.returns-clause-inside
returns-clause-inside c = record {
  before = c.requires.body.before;
  items = items-new (length c.args.self.now.builder.nodes) c.args.body.items c.push.new.self c.args.item c.in_ok-push.ensures.ok c.requires.body.items c.requires.item;
}
