use Rattle.syntect_yaml.specs.declared.text.Class.TheVariants.{InLine}
use Rattle.syntect_yaml.proofs.RunLaws.{run_boundary}
use Rattle.syntect_yaml.proofs.literal.line_len.Goals as goal

pub returns-else-byte_at-eq10-clause-boundary : goal.returns-else-byte_at-eq10-clause-boundary
returns-else-byte_at-eq10-clause-boundary c = rw (c.run_len-n.ensures.len, c.as_bytes-bytes.ensures.value) (run_boundary InLine c.args.text.now c.utf8.text)
