use Rattle.std.proofs.Common.{ap, ◌∙◌}
use Rattle.std.specs.Prelude.{option_map, chars}
use Rattle.syntect_pattern.specs.Grammar.{by_name}
use Rattle.syntect_pattern_table.specs.Builder.{tree_in}
use Rattle.syntect_pattern_words.specs.OpeningViews.{place_as}
use Rattle.syntect_pattern_compile.specs.ReaderViews.{body_as, went_on}
use Rattle.syntect_pattern_compile.proofs.ReaderLaws.{body-in-grown, body-grown, refer-is}
use Rattle.syntect_pattern_compile.proofs.reader.Reader.name_item.Goals as goal

pub item-requires-clause-body : goal.item-requires-clause-body
item-requires-clause-body c = body-in-grown c.args.self.now.builder.nodes c.by_name.new.self.builder.nodes c.args.body c.in_ok-node.ensures.grows c.requires.body

pub returns-clause-reads : goal.returns-clause-reads
returns-clause-reads c =
    refer-is c.args.known.now (body_as c.args.self.now.builder.nodes c.args.body) (body_as c.by_name.new.self.builder.nodes c.args.body)
    (tree_in c.by_name.new.self.builder.nodes c.in-Some.node) c.args.self.now.names c.by_name.new.self.names (λ names. place_as names c.args.place)
    (by_name c.args.known.now c.args.place.flags.fold (chars c.args.name.now)) (went_on c.item.new.self c.in_ok-item.field-0)
    (c.in_ok-node.ensures.reads ∙ ap (option_map (tree_in c.by_name.new.self.builder.nodes)) c.in-Some.is)
    (body-grown c.args.self.now.builder.nodes c.by_name.new.self.builder.nodes c.args.body c.in_ok-node.ensures.grows c.requires.body)
    c.in_ok-node.ensures.names
    (c.in_ok-item.ensures.reads c.args.known.now)
