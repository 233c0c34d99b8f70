use Rattle.syntect_grammar_limits.proofs.FolderLaws as laws
use Rattle.syntect_grammar_limits.proofs.folder_laws.added_within.Goals as goal

pub returns : goal.returns
returns g c = laws.added_within (g.T.Tree.told c.args.tree.now)
