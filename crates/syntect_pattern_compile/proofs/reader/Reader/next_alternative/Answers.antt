use Rattle.std.proofs.Common.{length}
use Rattle.syntect_pattern_compile.proofs.JoinLaws.{below-grown}
use Rattle.syntect_pattern_compile.proofs.ReaderLaws.{below-new, items-none, alternative-is}
use Rattle.syntect_pattern_compile.proofs.reader.Reader.next_alternative.Goals as goal

pub returns-clause-inside : goal.returns-clause-inside
returns-clause-inside c = record {
  before =
      below-new (length c.sequence.new.self.nodes) c.args.body.before c.push.new.self c.in_ok-last.last c.in_ok-push.ensures.ok
      (below-grown c.args.self.now.builder.nodes c.sequence.new.self.nodes c.args.body.before c.in_ok-last.ensures.grows c.requires.before) c.in_ok-last.ensures.holds.inside;
  items = items-none (length c.sequence.new.self.nodes) c.sequence.new.items c.in_ok-last.ensures.none;
}

pub returns-clause-is : goal.returns-clause-is
returns-clause-is c =
    alternative-is c.args.self.now.builder.nodes c.sequence.new.self.nodes c.args.body.before c.args.body.items c.push.new.self c.sequence.new.items c.in_ok-last.last
    c.in_ok-last.ensures.grows c.requires.before c.in_ok-push.ensures.ok c.in_ok-last.ensures.none c.in_ok-last.ensures.holds
