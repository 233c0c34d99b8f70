use Rattle.syntect_yaml.proofs.RunLaws.{run_boundary}
use Rattle.syntect_yaml.proofs.text.split_run.Goals as goal

pub split_at-requires : goal.split_at-requires
split_at-requires c = rw (c.run_len.ensures.len, c.as_bytes.ensures.value) (run_boundary c.args.class c.args.text.now c.utf8.text)
