use Rattle.std.proofs.Common.{sym, ◌∙◌, ap}
use Rattle.syntect_pattern_backtrack.specs.syntect_pattern.Sets.{range}
use Rattle.syntect_pattern_backtrack.specs.syntect_pattern_table.Table.{node_tree, set_of}
use Rattle.syntect_pattern_backtrack.specs.syntect_pattern_table.Program.{trees_of}
use Rattle.syntect_pattern_backtrack.proofs.EnterLaws.{goes_nothing, goes_past, goes_group, goes_anchor, goes_no_anchor, atomic-ok, ahead-ok, behind-ok}
use Rattle.syntect_pattern_backtrack.proofs.LetterLaws.{goes_text}
use Rattle.syntect_pattern_backtrack.proofs.LookbehindLaws.{few-starts}
use Rattle.syntect_pattern_backtrack.proofs.state.Search.enter.Goals as goal

pub returns-in_default : goal.returns-in_default
returns-in_default c =
    goes_nothing c.args.text.now (trees_of c.args.program.now) c.args.node c.args.list c.args.self.now c.in_default.ensures.is c.requires

pub returns-in-Nothing : goal.returns-in-Nothing
returns-in-Nothing c =
    goes_nothing c.args.text.now (trees_of c.args.program.now) c.args.node c.args.list c.args.self.now
    (c.in-Some.ensures.is ∙ ap (node_tree (trees_of c.args.program.now)) c.in-Nothing.is) c.requires

pub returns-in-Char : goal.returns-in-Char
returns-in-Char c =
    goes_past c.args.text.now (trees_of c.args.program.now) c.args.node c.args.list c.args.self.now c.go_on.new.self
    (range c.in-Char.wanted c.in-Char.wanted) c.go_on.result c.past_char-place.result
    (c.in-Some.ensures.is ∙ ap (node_tree (trees_of c.args.program.now)) c.in-Char.is)
    c.requires c.past_char-place.ensures.value c.past_char-place.ensures.boundary c.go_on.ensures.some c.go_on.ensures.none

pub returns-in-Class : goal.returns-in-Class
returns-in-Class c =
    goes_past c.args.text.now (trees_of c.args.program.now) c.args.node c.args.list c.args.self.now c.go_on-in-Class.new.self
    (set_of c.in-Class.class) c.go_on-in-Class.result c.past_class-place.result
    (c.in-Some.ensures.is ∙ ap (node_tree (trees_of c.args.program.now)) c.in-Class.is)
    c.requires c.past_class-place.ensures.value c.past_class-place.ensures.boundary c.go_on-in-Class.ensures.some c.go_on-in-Class.ensures.none

pub returns-in_ok-list-in-Group : goal.returns-in_ok-list-in-Group
returns-in_ok-list-in-Group c =
    rw c.in_ok-list-in-Group.ensures.list
    (goes_group c.args.text.now (trees_of c.args.program.now) c.args.node c.args.list c.args.self.now c.cons.new.self c.in-Group.number c.in-Group.body
    (c.in-Some.ensures.is ∙ ap (node_tree (trees_of c.args.program.now)) c.in-Group.is)
    c.requires c.in_ok-list-in-Group.ensures.cells c.in_ok-list-in-Group.ensures.others)

pub returns-then-anchor_holds : goal.returns-then-anchor_holds
returns-then-anchor_holds c =
    goes_anchor c.args.text.now (trees_of c.args.program.now) c.args.node c.args.list c.args.self.now c.in-Anchor.anchor
    (c.in-Some.ensures.is ∙ ap (node_tree (trees_of c.args.program.now)) c.in-Anchor.is)
    c.requires (sym c.anchor_holds.ensures ∙ c.if-anchor_holds.true)

pub returns-else-anchor_holds : goal.returns-else-anchor_holds
returns-else-anchor_holds c =
    goes_no_anchor c.args.text.now (trees_of c.args.program.now) c.args.node c.args.list c.args.self.now c.in-Anchor.anchor
    (c.in-Some.ensures.is ∙ ap (node_tree (trees_of c.args.program.now)) c.in-Anchor.is)
    c.requires (sym c.anchor_holds.ensures ∙ c.if-anchor_holds.false)

pub returns-in-Text : goal.returns-in-Text
returns-in-Text c =
    goes_text c.args.text.now (trees_of c.args.program.now) c.args.node c.args.list c.args.self.now c.go_to.new.self
    c.in-Text.letters c.in-Text.rest c.go_to.result c.past_letters-place.result
    (c.in-Some.ensures.is ∙ ap (node_tree (trees_of c.args.program.now)) c.in-Text.is)
    c.requires c.past_letters-place.ensures.value c.past_letters-place.ensures.boundary c.go_to.ensures.some c.go_to.ensures.none

pub returns-in-Atomic : goal.returns-in-Atomic
returns-in-Atomic c =
    atomic-ok c.args.text.now (trees_of c.args.program.now) c.args.node c.args.list c.enter_part.result c.args.self.now c.enter_part.new.self c.in-Atomic.body
    (c.in-Some.ensures.is ∙ ap (node_tree (trees_of c.args.program.now)) c.in-Atomic.is)
    c.requires c.enter_part.ensures.frames c.enter_part.ensures.others c.enter_part.ensures.next

pub returns-in-Ahead : goal.returns-in-Ahead
returns-in-Ahead c =
    ahead-ok c.args.text.now (trees_of c.args.program.now) c.args.node c.args.list c.enter_part-in-Ahead.result c.args.self.now c.enter_part-in-Ahead.new.self
    c.in-Ahead.negated c.look_bound.result c.in-Ahead.body
    (c.in-Some.ensures.is ∙ ap (node_tree (trees_of c.args.program.now)) c.in-Ahead.is)
    c.requires c.look_bound.ensures c.enter_part-in-Ahead.ensures.frames c.enter_part-in-Ahead.ensures.others c.enter_part-in-Ahead.ensures.next

pub returns-in-Behind : goal.returns-in-Behind
returns-in-Behind c =
    let from = c.starts_before-from.result.0 in
    let count = c.starts_before-from.result.1 in
    behind-ok c.args.text.now (trees_of c.args.program.now) c.args.node c.args.list c.enter_behind.result c.args.self.now c.enter_behind.new.self
    c.in-Behind.negated c.look_bound-in-Behind.result c.in-Behind.body count from
    (c.in-Some.ensures.is ∙ ap (node_tree (trees_of c.args.program.now)) c.in-Behind.is)
    c.requires c.look_bound-in-Behind.ensures (few-starts c.args.text.now _ c.args.self.now.place from count c.starts_before-from.ensures c.args.self.now.groups.items) c.enter_behind.ensures.frames c.enter_behind.ensures.cells c.enter_behind.ensures.place c.enter_behind.ensures.groups c.enter_behind.ensures.next
