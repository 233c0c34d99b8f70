use Rattle.syntect_metadata.proofs.SetLaws.{refused_as}
use Rattle.syntect_metadata.proofs.set.set_with.Goals as goal

pub returns-in-Err-clause-err : goal.returns-in-Err-clause-err
returns-in-Err-clause-err c =
    refused_as c.args.repository.now c.args.text c.args.items c.in-Err.e c.as_str.result.now c.of_scopes.result c.as_str.ensures c.of_scopes.ensures c.in-Err.ensures.refused
