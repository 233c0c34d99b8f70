use Rattle.std.proofs.Common.{◌≡◌, false, true}
use Rattle.syntect_base.proofs.tree.text_of.Goals as goal

pub returns-clause-err : goal.returns-clause-err
returns-clause-err c = λ u. let q : false ≡ true = c.in-Err.ensures.succeeds u in cc
