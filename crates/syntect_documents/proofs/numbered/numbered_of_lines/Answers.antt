use Rattle.syntect_documents.specs.syntect_easy.Files.{IsLineFault}
use Rattle.syntect_assets.proofs.syntect_easy_proofs.ReaderLaws.{faults_so}
use Rattle.syntect_documents.proofs.numbered.numbered_of_lines.Goals as goal

pub returns-in-Err-clause-faults : goal.returns-in-Err-clause-faults
returns-in-Err-clause-faults g c =
    rw c.of.ensures (faults_so (IsLineFault (g.L.ReadLines.failed c.args.lines) (g.L.ReadLines.ahead c.args.lines)) c.in-Err.e c.in-Err.ensures.faults)
