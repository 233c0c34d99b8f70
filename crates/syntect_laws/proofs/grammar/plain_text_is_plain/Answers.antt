use Rattle.syntect_laws.proofs.PlainStarts as laws
use Rattle.syntect_laws.proofs.grammar.plain_text_is_plain.Goals as goal

pub returns : goal.returns
returns c = laws.plain_text_is_plain
