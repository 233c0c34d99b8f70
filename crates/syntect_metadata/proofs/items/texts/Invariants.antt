use Rattle.syntect_metadata.proofs.TextLaws.{HasRead}
use Rattle.syntect_metadata.proofs.items.texts.Given as goal

abbrev pub invariant-loop-name : goal.invariant-loop-name
invariant-loop-name l = HasRead l.members.entries l.name-iterator l.texts.entries
