use Rattle.syntect_laws.proofs.NestLaws.{lines_read}
use Rattle.syntect_laws.proofs.yaml.block_is_read.Goals as goal

pub returns : goal.returns
returns c = lines_read
