use Rattle.std.proofs.Common.{ap, sym, ◌∙◌}
use Rattle.syntect_pattern.specs.Sets.{Set}
use Rattle.syntect_pattern.specs.Trees.{one_of}
use Rattle.syntect_pattern.specs.Grammar as grammar
use Rattle.syntect_pattern_words.specs.OpeningViews.{place_as}
use Rattle.syntect_pattern_compile.specs.ReaderViews.{body_as}
use Rattle.syntect_pattern_compile.proofs.reader.Reader.dot_item.Goals as goal

pub returns-clause-reads : goal.returns-clause-reads
returns-clause-reads c = λ known.
    ap (λ (a : Set). grammar.item known (body_as c.args.self.now.builder.nodes c.args.body) (one_of a) (place_as c.args.self.now.names c.args.place)) (sym c.in_ok-root.ensures.has.is)
    ∙ c.in_ok-class_item.ensures.reads known
