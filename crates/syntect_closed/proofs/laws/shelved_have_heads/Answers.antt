use Rattle.syntect_closed.proofs.FoundLaws.{shelved_have_heads}
use Rattle.syntect_closed.proofs.laws.shelved_have_heads.Goals as goal

pub returns : goal.returns
returns c = shelved_have_heads
