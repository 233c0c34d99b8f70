use Rattle.syntect_scope.proofs.DotLaws.{trimmed_dots}
use Rattle.syntect_scope.proofs.repository.trimmed.Goals as goal

pub returns : goal.returns
returns c = trimmed_dots c.args.s.now c.trim_end_matches.result.now c.trim_end_matches.ensures.matches
