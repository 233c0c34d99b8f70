use Rattle.std.proofs.Common.{rules}
use Rattle.syntect_grammar_linker.proofs.Walks.{includers_more}
use Rattle.syntect_grammar_linker.proofs.reached.includers.Goals as goal

pub loop-inclusion-preserved : goal.loop-inclusion-preserved
loop-inclusion-preserved c = λ id. includers_more c.args.inclusions.now c.loop-inclusion.inclusion-index _ id _ _ (search rules) (c.loop-inclusion.invariant id) (c.in_ok-put_includer.ensures id)
