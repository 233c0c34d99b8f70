use Rattle.std.proofs.Common.{box_value}
use Rattle.syntect_c.proofs.DocLaws.{begins_of, if_made}
use Rattle.syntect_c.proofs.doc_calls.new_with.Goals as goal

pub returns-in-Some-clause-begins : goal.returns-in-Some-clause-begins
returns-in-Some-clause-begins c =
    if_made _ _ c.new_number-made.result
    (λ document begins. begins_of c.args.language.now c.args.theme.now c.of.result.handle.held _
    (box_value document) c.of.ensures begins) c.new_number-made.ensures.begins
