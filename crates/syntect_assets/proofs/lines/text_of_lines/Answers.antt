use Rattle.syntect_easy.specs.Files.{IsLineFault}
use Rattle.syntect_easy.proofs.ReaderLaws.{faults_so}
use Rattle.syntect_assets.proofs.lines.text_of_lines.Goals as goal

pub returns-in-Err-clause-faults : goal.returns-in-Err-clause-faults
returns-in-Err-clause-faults g c =
    rw c.of.ensures (faults_so (IsLineFault (g.L.ReadLines.failed c.args.lines) (g.L.ReadLines.ahead c.args.lines)) c.in-Err.e c.in-Err.ensures.faults)
