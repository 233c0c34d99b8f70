use Rattle.std.proofs.Common.{string_bytes}
use Rattle.syntect_assets.proofs.syntect_easy_proofs.ClassedLaws.{closing_step}
use Rattle.syntect_documents.proofs.classed.push_closing_tags.Goals as goal

pub loop-preserved : goal.loop-preserved
loop-preserved c = closing_step c.args.count c.loop.counter _ (string_bytes c.loop.out) (string_bytes c.push_str.new.self) c.loop-test.true c.in_ok-push_str.ensures.bytes c.loop.invariant
