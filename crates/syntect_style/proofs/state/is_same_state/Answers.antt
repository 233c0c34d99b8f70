use Rattle.syntect_style.proofs.StackLaws.{stacks_decide}
use Rattle.syntect_style.proofs.state.is_same_state.Goals as goal

pub returns : goal.returns
returns c = stacks_decide _ _ _ c.eq.ensures
