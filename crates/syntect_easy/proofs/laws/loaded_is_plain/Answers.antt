use Rattle.syntect_easy.proofs.LoadedLaws.{loaded_plain}
use Rattle.syntect_easy.proofs.laws.loaded_is_plain.Goals as goal

pub returns : goal.returns
returns c = loaded_plain
