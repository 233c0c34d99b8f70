use Rattle.syntect_easy.proofs.BuiltLaws.{built_begins_plain}
use Rattle.syntect_easy.proofs.ClassedLaws.{operations_apply}
use Rattle.syntect_easy.proofs.laws.operations_are_never_refused.Goals as goal

pub returns-clause-built : goal.returns-clause-built
returns-clause-built c = built_begins_plain

pub returns-clause-apply : goal.returns-clause-apply
returns-clause-apply c = operations_apply
