use Rattle.syntect_documents.proofs.classed.classed_in.Goals as goal

pub returns-clause-shown : goal.returns-clause-shown
returns-clause-shown c = c.in_ok-text.ensures
