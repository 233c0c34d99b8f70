use Rattle.std.proofs.Common.{ap, ◌∙◌}
use Rattle.syntect_pattern_table.specs.Builder.{tree_in}
use Rattle.syntect_pattern_words.specs.OpeningViews.{place_as}
use Rattle.syntect_pattern_words.specs.TokenViews.{looped_tree, repeated}
use Rattle.syntect_pattern_compile.specs.ReaderViews.{body_as, went_on}
use Rattle.syntect_pattern_compile.proofs.ReaderLaws.{body-in-grown, body-grown, item-is}
use Rattle.syntect_pattern_compile.proofs.reader.Reader.item.Goals as goal

pub firm-requires-clause-body : goal.firm-requires-clause-body
firm-requires-clause-body c = body-in-grown c.args.self.now.builder.nodes c.push_looping.new.self.nodes c.args.body c.in_ok-node.ensures.grows c.requires.body

pub returns-clause-reads : goal.returns-clause-reads
returns-clause-reads c = λ known.
    item-is known (body_as c.args.self.now.builder.nodes c.args.body) (body_as c.push_looping.new.self.nodes c.args.body)
    (tree_in c.args.self.now.builder.nodes c.args.node) (looped_tree c.in-Some.looping (tree_in c.args.self.now.builder.nodes c.args.node)) (tree_in c.push_looping.new.self.nodes c.in_ok-node.node)
    (place_as c.args.self.now.names c.args.place) (place_as c.args.self.now.names c.in-Some.rest)
    (went_on c.firm.new.self c.in_ok-firm.field-0)
    (c.read_looping.ensures c.args.self.now.names (tree_in c.args.self.now.builder.nodes c.args.node) ∙ ap (repeated c.args.self.now.names (tree_in c.args.self.now.builder.nodes c.args.node)) c.in-Some.is)
    c.in_ok-node.ensures.holds.is
    (body-grown c.args.self.now.builder.nodes c.push_looping.new.self.nodes c.args.body c.in_ok-node.ensures.grows c.requires.body)
    (c.in_ok-firm.ensures.reads known)
