use Rattle.syntect_pattern_table.proofs.BeginLaws.{row-none}
use Rattle.syntect_pattern_table.proofs.starts.row_of.Goals as goal

pub returns-then-is_nowhere-clause-row : goal.returns-then-is_nowhere-clause-row
returns-then-is_nowhere-clause-row c p x e = row-none p c.args.firsts.now.items c.args.next x (c.is_nowhere.ensures c.if-is_nowhere.true x) e
