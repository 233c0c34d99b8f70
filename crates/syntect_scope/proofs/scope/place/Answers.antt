use Rattle.syntect_scope.proofs.PackingLaws.{place_read}
use Rattle.syntect_scope.proofs.scope.place.Goals as goal

pub returns : goal.returns
returns c = place_read c.args.word c.args.index c.requires
