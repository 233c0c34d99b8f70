use Rattle.std.proofs.Common.{◌==◌}
use Rattle.syntect_pattern_table.specs.Starts.{is_in}
use Rattle.syntect_pattern_compile.proofs.NeedLaws.{need-same}
use Rattle.syntect_pattern_compile.proofs.needs.need_of.Goals as goal

pub returns-in-Some : goal.returns-in-Some
returns-in-Some c = λ t needed.
    (c.in-Some.ensures.0, need-same (is_in c.args.found.here) (λ x. x == c.in-Some.byte) (is_in c.args.found.next) t c.in-Some.ensures.1 needed)
