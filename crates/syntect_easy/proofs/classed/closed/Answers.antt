use Rattle.std.proofs.Common.{string_bytes}
use Rattle.syntect_easy.proofs.ClassedLaws.{closing_step}
use Rattle.syntect_easy.proofs.classed.closed.Goals as goal

pub loop-preserved : goal.loop-preserved
loop-preserved c = closing_step c.args.count c.loop.counter _ (string_bytes c.loop.text) (string_bytes c.push_str.new.self) c.loop-test.true c.in_ok-push_str.ensures.bytes c.loop.invariant
