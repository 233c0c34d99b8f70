use Rattle.std.proofs.Common.{◌∙◌, sym}
use Rattle.syntect_shelf.proofs.UnreadLaws.{both_found, match_first}
use Rattle.syntect_shelf.proofs.leads.unread_by_match.Goals as goal

pub returns : goal.returns
returns c = both_found _ _ _ _ _ c.first_of.ensures c.unread_by_operation.ensures c.unread_by_prototype.ensures ∙ sym (match_first c.args.whole.now c.args.definitions.now c.args.pattern.now)
