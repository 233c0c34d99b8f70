use Rattle.std.proofs.Common.{◌≡◌, ◌<◌, map, arith}
use Rattle.std.proofs.lemmas.Grind.{common_steps}
use Rattle.std.proofs.lemmas.Bool.Decides.{nat_tests}
use Rattle.syntect_yaml.specs.View.{view}
use Rattle.syntect_grammar_limits.proofs.PatternLaws.{no_room, in_room}
use Rattle.syntect_grammar_limits.proofs.patterns.+patterns.Goals as goal

pub add_context-returns-then-room-eq0 : goal.add_context-returns-then-room-eq0
add_context-returns-then-room-eq0 t c =
    let none : c.args.room ≡ 0 = grind (arith, nat_tests, common_steps) in
    no_room c.args.room (map view c.args.items.now) c.args.found.now none

pub add_context-returns : goal.add_context-returns
add_context-returns t c =
    let some : 0 < c.args.room = grind (arith, nat_tests, common_steps) in
    in_room c.args.room (map view c.args.items.now) c.args.found.now c.add_items.new.found c.add_items.result some c.add_items.ensures
