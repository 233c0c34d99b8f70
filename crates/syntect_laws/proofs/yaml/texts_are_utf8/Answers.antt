use Rattle.syntect_laws.proofs.Utf8Laws.{writes_utf8}
use Rattle.syntect_laws.proofs.yaml.texts_are_utf8.Goals as goal

pub returns : goal.returns
returns c = writes_utf8
