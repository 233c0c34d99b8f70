use Rattle.syntect_pattern.specs.Sets.{alike}
use Rattle.syntect_pattern_table.proofs.lengths.lengths_of_letter.Goals as goal

pub returns-then-fold : goal.returns-then-fold
returns-then-fold c =
    rw c.if-fold.true (c.lengths_of_one.ensures (alike c.args.letter c.args.letter) c.is_alike_wide.ensures)
