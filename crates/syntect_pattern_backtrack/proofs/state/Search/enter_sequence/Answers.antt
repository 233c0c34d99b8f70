use Rattle.std.proofs.Common.{◌∙◌, ap}
use Rattle.syntect_pattern_backtrack.specs.syntect_pattern.Sets.{range}
use Rattle.syntect_pattern_backtrack.specs.syntect_pattern_table.Table.{node_tree, set_of}
use Rattle.syntect_pattern_backtrack.specs.syntect_pattern_table.Program.{trees_of}
use Rattle.syntect_pattern_backtrack.proofs.EnterLaws.{goes_seq, goes_seq_past, goes_seq_anchor}
use Rattle.syntect_pattern_backtrack.proofs.state.Search.enter_sequence.Goals as goal

pub returns-in-Some-Char : goal.returns-in-Some-Char
returns-in-Some-Char c =
    goes_seq_past c.args.text.now (trees_of c.args.program.now) c.args.node c.args.list c.args.self.now c.go_to.new.self c.args.first c.args.second
    (range c.in-Some-Char.wanted c.in-Some-Char.wanted) c.go_to.result c.past_char-place.result
    c.requires.is (c.in-Some-Char.ensures.is ∙ ap (node_tree (trees_of c.args.program.now)) c.in-Some-Char.field-0-is)
    c.requires.fits c.past_char-place.ensures.value c.past_char-place.ensures.boundary c.go_to.ensures.some c.go_to.ensures.none

pub returns-in-Some-Class : goal.returns-in-Some-Class
returns-in-Some-Class c =
    goes_seq_past c.args.text.now (trees_of c.args.program.now) c.args.node c.args.list c.args.self.now c.go_to-in-Some-Class.new.self c.args.first c.args.second
    (set_of c.in-Some-Class.class) c.go_to-in-Some-Class.result c.past_class-place.result
    c.requires.is (c.in-Some-Class.ensures.is ∙ ap (node_tree (trees_of c.args.program.now)) c.in-Some-Class.field-0-is)
    c.requires.fits c.past_class-place.ensures.value c.past_class-place.ensures.boundary c.go_to-in-Some-Class.ensures.some c.go_to-in-Some-Class.ensures.none

pub returns-then-anchor_holds : goal.returns-then-anchor_holds
returns-then-anchor_holds c =
    (goes_seq_anchor c.args.text.now (trees_of c.args.program.now) c.args.node c.args.list c.args.self.now c.args.first c.args.second c.in-Some-Anchor.anchor c.anchor_holds.result
    c.requires.is (c.in-Some-Anchor.ensures.is ∙ ap (node_tree (trees_of c.args.program.now)) c.in-Some-Anchor.field-0-is) c.requires.fits c.anchor_holds.ensures).0 c.if-anchor_holds.true

pub returns-else-anchor_holds : goal.returns-else-anchor_holds
returns-else-anchor_holds c =
    (goes_seq_anchor c.args.text.now (trees_of c.args.program.now) c.args.node c.args.list c.args.self.now c.args.first c.args.second c.in-Some-Anchor.anchor c.anchor_holds.result
    c.requires.is (c.in-Some-Anchor.ensures.is ∙ ap (node_tree (trees_of c.args.program.now)) c.in-Some-Anchor.field-0-is) c.requires.fits c.anchor_holds.ensures).1 c.if-anchor_holds.false

pub returns-in_ok-list-in_default : goal.returns-in_ok-list-in_default
returns-in_ok-list-in_default c =
    rw c.in_ok-list-in_default.ensures.list
    (goes_seq c.args.text.now (trees_of c.args.program.now) c.args.node c.args.list c.args.self.now c.cons.new.self c.args.first c.args.second
    c.requires.is c.requires.fits c.in_ok-list-in_default.ensures.cells c.in_ok-list-in_default.ensures.others)
