use Rattle.syntect_pattern_table.proofs.PlaceLaws.{bits_between}
use Rattle.syntect_pattern_table.proofs.ascii.span_bits.Goals as goal

pub returns : goal.returns
returns c = λ x.
    bits_between c.args.first c.args.end x c.requires.ascii _ _ _ _ (c.bits_below-2.ensures x) (c.bits_below.ensures x) (c.others.ensures x) (c.both.ensures x)
