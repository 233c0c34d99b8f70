use Rattle.std.proofs.Common.{◌<◌, length, ap, arith}
use Rattle.std.proofs.lemmas.Grind.{common_steps}
use Rattle.std.proofs.lemmas.Bool.Decides.{nat_tests}
use Rattle.syntect_yaml.specs.Lines.{is_in_line}
use Rattle.syntect_yaml.proofs.RunLaws.{run_stops}
use Rattle.syntect_yaml.proofs.text.after_line.Goals as goal

pub skip-requires-clause-there : goal.skip-requires-clause-there
skip-requires-clause-there c =
    let same = ap (λ p. p.1) c.split_run.ensures.parts in
    let more : 0 < length c.split_run.result.1.now = grind (arith, common_steps) in
    let stops = run_stops is_in_line c.args.text.now (rw (← same) more) in
    grind (arith, nat_tests)

pub skip-requires-clause-ascii : goal.skip-requires-clause-ascii
skip-requires-clause-ascii c =
    let same = ap (λ p. p.1) c.split_run.ensures.parts in
    let more : 0 < length c.split_run.result.1.now = grind (arith, common_steps) in
    let stops = run_stops is_in_line c.args.text.now (rw (← same) more) in
    grind (arith, nat_tests)
