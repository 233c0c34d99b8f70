use Rattle.syntect_laws.proofs.TextLaws.{line_read}
use Rattle.syntect_laws.proofs.yaml.flow_is_read.Goals as goal

pub returns : goal.returns
returns c = line_read
