use Rattle.syntect_pattern.specs.Trees.{one_of}
use Rattle.syntect_pattern_table.specs.Builder.{tree_in}
use Rattle.syntect_pattern_words.specs.MemberViews.{leaf_set}
use Rattle.syntect_pattern_words.specs.OpeningViews.{place_as}
use Rattle.syntect_pattern_compile.specs.ReaderViews.{body_as, went_on}
use Rattle.syntect_pattern_compile.proofs.ReaderLaws.{body-in-grown, body-grown, item-grown}
use Rattle.syntect_pattern_compile.proofs.reader.Reader.named_item.Goals as goal

pub item-requires-clause-body : goal.item-requires-clause-body
item-requires-clause-body c = body-in-grown c.args.self.now.builder.nodes c.push_leaf.new.self.nodes c.args.body c.in_ok-node.ensures.grows c.requires.body

pub returns-clause-reads : goal.returns-clause-reads
returns-clause-reads c = λ known.
    item-grown known (body_as c.args.self.now.builder.nodes c.args.body) (body_as c.push_leaf.new.self.nodes c.args.body)
    (one_of (leaf_set c.args.leaf)) (tree_in c.push_leaf.new.self.nodes c.in_ok-node.node) (place_as c.args.self.now.names c.args.place) (went_on c.item.new.self c.in_ok-item.field-0)
    c.in_ok-node.ensures.holds.is
    (body-grown c.args.self.now.builder.nodes c.push_leaf.new.self.nodes c.args.body c.in_ok-node.ensures.grows c.requires.body)
    (c.in_ok-item.ensures.reads known)
