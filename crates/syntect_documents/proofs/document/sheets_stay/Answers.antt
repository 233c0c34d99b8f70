use Rattle.syntect_documents.proofs.DocumentLaws.{guarded_stays}
use Rattle.syntect_documents.proofs.document.sheets_stay.Goals as goal

pub returns : goal.returns
returns c = guarded_stays
