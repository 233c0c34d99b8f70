use Rattle.std.proofs.Common.{length, arith, ap}
use Rattle.syntect_regex.proofs.MarkLaws.{looks-outside}
use Rattle.syntect_regex.proofs.looks.looks_in.Goals as goal

pub returns-then-program-nodes : goal.returns-then-program-nodes
returns-then-program-nodes c =
    looks-outside c.args.program.now.nodes c.args.program.now.root c.new.result (omega (arith, ap length c.as_slice-nodes.ensures, c.if-program-nodes.true))
