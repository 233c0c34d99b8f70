use Rattle.syntect_laws.proofs.syntect_grammar_proofs.Room.{room_is_not_felt, room_is_not_felt_at}
use Rattle.syntect_laws.proofs.grammar.room_is_not_felt.Goals as goal

pub returns-clause-alone : goal.returns-clause-alone
returns-clause-alone c = room_is_not_felt

pub returns-clause-held : goal.returns-clause-held
returns-clause-held c = room_is_not_felt_at
