use Rattle.std.proofs.Common.{sym, subst, ◌∙◌, ap}
use Rattle.syntect_pattern_backtrack.specs.syntect_pattern_table.Table.{node_tree}
use Rattle.syntect_pattern_backtrack.specs.syntect_pattern_table.Program.{trees_of}
use Rattle.syntect_pattern_backtrack.specs.syntect_pattern.Letters.{letters_of}
use Rattle.syntect_pattern_steps.specs.First.{IsDead}
use Rattle.syntect_pattern_backtrack.proofs.DeadLaws.{none_is}
use Rattle.syntect_pattern_backtrack.proofs.LetterLaws.{dead-letters}
use Rattle.syntect_pattern_backtrack.proofs.dead.fails_at_once.Goals as goal

pub returns-in-Text : goal.returns-in-Text
returns-in-Text c = λ y.
    c.in-Some.ensures c.args.text.now c.args.place
    (subst (IsDead c.args.text.now c.args.place) (sym (ap (node_tree (trees_of c.args.program.now)) c.in-Text.is))
    (dead-letters c.args.text.now c.in-Text.letters.fold _ (letters_of c.in-Text.letters) c.args.place (sym c.past_letters.ensures.value ∙ none_is c.past_letters.result c.is_none-in-Text.result c.is_none-in-Text.ensures y)))
