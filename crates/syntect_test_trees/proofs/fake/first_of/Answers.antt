use Rattle.syntect_test_trees.proofs.FakeLaws.{line_whole, line_taken}
use Rattle.syntect_test_trees.proofs.fake.first_of.Goals as goal

pub returns-then-len-bytes : goal.returns-then-len-bytes
returns-then-len-bytes c = line_whole c.args.bytes.now c.line_len-len.result c.line_len-len.ensures.value c.if-len-bytes.true

pub returns : goal.returns
returns c = line_taken c.args.bytes.now c.split_at.result.0.now c.line_len-len.result c.line_len-len.ensures.value c.split_at.ensures.front
