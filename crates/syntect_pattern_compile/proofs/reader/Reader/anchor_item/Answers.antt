use Rattle.syntect_pattern.specs.Trees.{anchor}
use Rattle.syntect_pattern_table.specs.Builder.{tree_in}
use Rattle.syntect_pattern_words.specs.OpeningViews.{place_as}
use Rattle.syntect_pattern_compile.specs.ReaderViews.{body_as, went_on}
use Rattle.syntect_pattern_compile.proofs.ReaderLaws.{body-in-grown, body-grown, firm-grown}
use Rattle.syntect_pattern_compile.proofs.reader.Reader.anchor_item.Goals as goal

pub firm-requires-clause-body : goal.firm-requires-clause-body
firm-requires-clause-body c = body-in-grown c.args.self.now.builder.nodes c.push.new.self.nodes c.args.body c.in_ok-node.ensures.grows c.requires.body

pub returns-clause-reads : goal.returns-clause-reads
returns-clause-reads c = λ known.
    firm-grown known (body_as c.args.self.now.builder.nodes c.args.body) (body_as c.push.new.self.nodes c.args.body)
    (anchor c.args.which) (tree_in c.push.new.self.nodes c.in_ok-node.node) (place_as c.args.self.now.names c.args.place) (went_on c.firm.new.self c.in_ok-firm.field-0)
    c.in_ok-node.ensures.holds.is
    (body-grown c.args.self.now.builder.nodes c.push.new.self.nodes c.args.body c.in_ok-node.ensures.grows c.requires.body)
    (c.in_ok-firm.ensures.reads known)
