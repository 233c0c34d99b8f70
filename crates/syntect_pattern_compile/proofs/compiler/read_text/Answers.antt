use Rattle.std.specs.Prelude.{chars}
use Rattle.std.proofs.Common.{ap, ◌∙◌, Some, None}
use Rattle.syntect_pattern_table.specs.Builder.{tree_in}
use Rattle.syntect_pattern_compile.specs.Compiled.{whole_as}
use Rattle.syntect_pattern_compile.proofs.WholeLaws.{tree-unread, tree-read, groups-counted, tree-alone}
use Rattle.syntect_pattern_compile.proofs.compiler.read_text.Goals as goal

pub returns-in_default-clause-reads : goal.returns-in_default-clause-reads
returns-in_default-clause-reads c = tree-unread (chars c.args.text.now) (c.in_ok-first.ensures.reads ∙ ap whole_as c.in_default.is)

pub returns-then-not-first-clause-reads : goal.returns-then-not-first-clause-reads
returns-then-not-first-clause-reads c =
    tree-alone (chars c.args.text.now) c.in_ok-first.field-0 c.in_ok-first.ensures.reads c.in_ok-first.ensures.alone (c.in-Some.first, c.in-Some.body) c.in-Some.is c.if-not-first.true

pub returns-then-not-first-clause-groups : goal.returns-then-not-first-clause-groups
returns-then-not-first-clause-groups c = groups-counted None (chars c.args.text.now) (Some (c.in-Some.first, c.in-Some.body)) (c.in_ok-first.ensures.reads ∙ ap whole_as c.in-Some.is)

pub returns-clause-reads : goal.returns-clause-reads
returns-clause-reads c =
    tree-read (chars c.args.text.now) (tree_in c.in-Some.first.builder.nodes c.in-Some.body) c.in-Some.first.names (c.in_ok-first.ensures.reads ∙ ap whole_as c.in-Some.is)
    c.in_ok-again.again c.in_ok-again.ensures.reads

pub returns-clause-groups : goal.returns-clause-groups
returns-clause-groups c = groups-counted (Some c.in-Some.first.names) (chars c.args.text.now) c.in_ok-again.again c.in_ok-again.ensures.reads
