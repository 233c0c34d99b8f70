use Rattle.std.proofs.Common.{◌≡◌, ◌<◌, arith}
use Rattle.std.proofs.lemmas.Grind.{common_steps}
use Rattle.std.proofs.lemmas.Bool.Decides.{nat_tests}
use Rattle.syntect_grammar_loader.proofs.RoomLaws.{no_room, in_room}
use Rattle.syntect_grammar_loader.proofs.yaml_load_contexts.+contexts.Goals as goal

pub context-returns-then-room-eq0-clause-value : goal.context-returns-then-room-eq0-clause-value
context-returns-then-room-eq0-clause-value t c =
    let none : c.args.room ≡ 0 = grind (arith, nat_tests, common_steps) in
    no_room c.args.room _ _ _ none

pub context-returns-clause-value : goal.context-returns-clause-value
context-returns-clause-value t c =
    let some : 0 < c.args.room = grind (arith, nat_tests, common_steps) in
    in_room c.args.room _ _ _ _ _ _ _ some c.in_ok-name.ensures.value c.named_context.ensures.value
