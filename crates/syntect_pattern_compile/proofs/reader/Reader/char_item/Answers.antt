use Rattle.std.proofs.Common.{ap, ◌∙◌}
use Rattle.syntect_pattern.specs.Sets.{from_to}
use Rattle.syntect_pattern.specs.Trees.{Tree, one_of}
use Rattle.syntect_pattern_words.specs.OpeningViews.{place_as}
use Rattle.syntect_pattern_words.specs.TokenViews.{looped_tree, repeated}
use Rattle.syntect_pattern_compile.specs.JoinViews.{item_tree}
use Rattle.syntect_pattern_compile.specs.ReaderViews.{body_as, went_on}
use Rattle.syntect_pattern_compile.proofs.ReaderLaws.{body-in-grown, body-grown, item-is}
use Rattle.syntect_pattern_compile.proofs.reader.Reader.char_item.Goals as goal

pub firm-requires-clause-body : goal.firm-requires-clause-body
firm-requires-clause-body c = body-in-grown c.args.self.now.builder.nodes c.looped_char.new.self.nodes c.args.body c.in_ok-item.ensures.grows c.requires.body

pub returns-clause-reads : goal.returns-clause-reads
returns-clause-reads c = λ known.
    let old = c.args.self.now in
    let new = c.looped_char.new.self.nodes in
    let char : Tree = one_of (from_to c.args.place.flags.fold c.args.c c.args.c) in
    item-is known (body_as old.builder.nodes c.args.body) (body_as new c.args.body) char (looped_tree c.in-Some.looping char)
    (item_tree new c.in_ok-item.item)
    (place_as old.names c.args.place) (place_as old.names c.in-Some.rest)
    (went_on c.firm.new.self c.in_ok-firm.field-0)
    (c.read_looping.ensures old.names char ∙ ap (repeated old.names char) c.in-Some.is)
    c.in_ok-item.ensures.is
    (body-grown old.builder.nodes new c.args.body c.in_ok-item.ensures.grows c.requires.body)
    (c.in_ok-firm.ensures.reads known)
