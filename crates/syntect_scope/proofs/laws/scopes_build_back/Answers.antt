use Rattle.syntect_scope.proofs.TextLaws.{builds_back}
use Rattle.syntect_scope.proofs.laws.scopes_build_back.Goals as goal

pub returns : goal.returns
returns c = builds_back
