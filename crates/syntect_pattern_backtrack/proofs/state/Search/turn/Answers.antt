use Rattle.std.proofs.Common.{sym, subst, ◌∙◌, arith, ap, eq-eqb, ne_eqb}
use Rattle.syntect_pattern_backtrack.specs.syntect_pattern_table.Table.{node_tree}
use Rattle.syntect_pattern_backtrack.specs.syntect_pattern_table.Program.{trees_of}
use Rattle.syntect_pattern_backtrack.specs.declared.state.Search.{Search}
use Rattle.syntect_pattern_backtrack.proofs.TurnLaws.{goes_turn-leave, goes_turn-fail, goes_turn-more, goes_turn-over, goes_choose, goes_no_loop, goes_no_node}
use Rattle.syntect_pattern_backtrack.proofs.PassLaws.{goes_turn-dead, goes_turn-only, here_dead, take_turn-ok}
use Rattle.syntect_pattern_backtrack.specs.declared.state.Next.{Next}
use Rattle.syntect_pattern_backtrack.specs.Machine.{Goes}
use Rattle.syntect_pattern_backtrack.proofs.state.Search.turn.Goals as goal

pub returns-in_default : goal.returns-in_default
returns-in_default c = goes_no_node c.args.text.now (trees_of c.args.program.now) c.args.turns c.args.self.now c.args.list c.in_default.ensures.is c.requires

pub returns-in_default-found : goal.returns-in_default-found
returns-in_default-found c =
    goes_no_loop c.args.text.now (trees_of c.args.program.now) c.args.turns c.in-Some.found.now c.args.self.now c.args.list
    c.in-Some.ensures.is c.in_default-found.not-Repeat c.requires

pub returns-then-turns-eq0 : goal.returns-then-turns-eq0
returns-then-turns-eq0 c =
    goes_turn-over c.args.text.now (trees_of c.args.program.now) c.args.turns c.in-Repeat.greedy c.in-Repeat.least c.in-Repeat.most c.in-Repeat.body
    (c.in-Some.ensures.is ∙ ap (node_tree (trees_of c.args.program.now)) c.in-Repeat.is)
    c.args.self.now c.args.list c.requires c.if-turns-eq0.true

pub returns-then-turns-eq0-2 : goal.returns-then-turns-eq0-2
returns-then-turns-eq0-2 c =
    goes_turn-leave c.args.text.now (trees_of c.args.program.now) c.args.turns c.in-Repeat.greedy c.in-Repeat.least c.in-Repeat.most c.in-Repeat.body
    (c.in-Some.ensures.is ∙ ap (node_tree (trees_of c.args.program.now)) c.in-Repeat.is)
    c.args.self.now c.args.list c.requires (omega arith) (sym c.is_used_up.ensures ∙ c.if-is_used_up.true) (eq-eqb c.args.turns.least 0 c.if-turns-eq0-2.true)

pub returns-then-is_used_up : goal.returns-then-is_used_up
returns-then-is_used_up c =
    goes_turn-fail c.args.text.now (trees_of c.args.program.now) c.args.turns c.in-Repeat.greedy c.in-Repeat.least c.in-Repeat.most c.in-Repeat.body
    (c.in-Some.ensures.is ∙ ap (node_tree (trees_of c.args.program.now)) c.in-Repeat.is)
    c.args.self.now c.args.list c.requires (omega arith) (sym c.is_used_up.ensures ∙ c.if-is_used_up.true) (ne_eqb c.args.turns.least 0 c.if-turns-eq0-2.false)

pub returns-then-none_begins_at : goal.returns-then-none_begins_at
returns-then-none_begins_at c =
    let s = c.args.text.now in
    let ts = trees_of c.args.program.now in
    subst (λ (n : Next). Goes s ts (Next.Turn c.args.turns c.args.list) c.args.self.now n c.args.self.now) (sym c.leave_after.ensures)
    (goes_turn-dead s ts c.args.turns c.in-Repeat.greedy c.in-Repeat.least c.in-Repeat.most c.in-Repeat.body
    (c.in-Some.ensures.is ∙ ap (node_tree ts) c.in-Repeat.is)
    c.args.self.now c.args.list c.requires (omega arith) (c.none_begins_at.ensures c.if-none_begins_at.true))

pub returns-then-turns-ne0 : goal.returns-then-turns-ne0
returns-then-turns-ne0 c =
    take_turn-ok c.args.text.now (trees_of c.args.program.now) c.args.turns c.in-Repeat.greedy c.in-Repeat.least c.in-Repeat.most c.in-Repeat.body
    (c.in-Some.ensures.is ∙ ap (node_tree (trees_of c.args.program.now)) c.in-Repeat.is)
    c.args.self.now c.take_turn.new.self c.args.list c.take_turn.result c.one_turn_less.result c.one_turn_less.ensures
    (goes_turn-more c.args.text.now (trees_of c.args.program.now) c.args.turns c.in-Repeat.greedy c.in-Repeat.least c.in-Repeat.most c.in-Repeat.body
    (c.in-Some.ensures.is ∙ ap (node_tree (trees_of c.args.program.now)) c.in-Repeat.is)
    c.args.self.now c.take_turn.new.self c.args.list c.requires (omega arith) (sym c.is_used_up.ensures ∙ c.if-is_used_up.false) (ne_eqb c.args.turns.least 0 c.if-turns-ne0.true))
    c.take_turn.ensures.cells c.take_turn.ensures.next c.take_turn.ensures.others

pub returns-then-dead_ends-ne0 : goal.returns-then-dead_ends-ne0
returns-then-dead_ends-ne0 c =
    let old : Search = c.args.self.now in
    let s = c.args.text.now in
    let ts = trees_of c.args.program.now in
    take_turn-ok s ts c.args.turns c.in-Repeat.greedy c.in-Repeat.least c.in-Repeat.most c.in-Repeat.body
    (c.in-Some.ensures.is ∙ ap (node_tree ts) c.in-Repeat.is)
    old c.take_turn-then-dead_ends-ne0.new.self c.args.list c.take_turn-then-dead_ends-ne0.result c.one_turn_less.result c.one_turn_less.ensures
    (goes_turn-only s ts c.args.turns c.in-Repeat.greedy c.in-Repeat.least c.in-Repeat.most c.in-Repeat.body
    (c.in-Some.ensures.is ∙ ap (node_tree ts) c.in-Repeat.is)
    old c.take_turn-then-dead_ends-ne0.new.self c.args.list c.requires (omega arith) (sym c.is_used_up.ensures ∙ c.if-is_used_up.false)
    (here_dead s ts old.cells.items c.args.list old.place c.dead_ends.result c.if-dead_ends-ne0.true c.dead_ends.ensures.dead old.groups.items))
    c.take_turn-then-dead_ends-ne0.ensures.cells c.take_turn-then-dead_ends-ne0.ensures.next c.take_turn-then-dead_ends-ne0.ensures.others

pub returns : goal.returns
returns c =
    goes_choose c.args.text.now (trees_of c.args.program.now) c.args.turns c.in-Repeat.greedy c.in-Repeat.least c.in-Repeat.most c.in-Repeat.body
    (c.in-Some.ensures.is ∙ ap (node_tree (trees_of c.args.program.now)) c.in-Repeat.is)
    c.args.self.now c.choose.new.self c.args.list c.choose.result c.one_turn_less.result c.one_turn_less.ensures c.requires (omega arith)
    (sym c.is_used_up.ensures ∙ c.if-is_used_up.false) (eq-eqb c.args.turns.least 0 c.if-turns-ne0.false)
    c.choose.ensures.cells c.choose.ensures.more c.choose.ensures.leave c.choose.ensures.place c.choose.ensures.groups
