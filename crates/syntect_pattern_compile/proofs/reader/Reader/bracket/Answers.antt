use Rattle.std.proofs.Common.{ap, ◌∙◌, sym, Option}
use Rattle.syntect_pattern.specs.Sets.{Set}
use Rattle.syntect_pattern.specs.Reading.{Text, ◌>>=◌}
use Rattle.syntect_pattern.specs.Trees.{one_of}
use Rattle.syntect_pattern.specs.Classes.{class}
use Rattle.syntect_pattern_compile.specs.ClassViews.{set_as}
use Rattle.syntect_pattern.specs.Grammar as grammar
use Rattle.syntect_pattern_words.specs.OpeningViews.{flags_as}
use Rattle.syntect_pattern_compile.specs.ReaderViews.{body_as}
use Rattle.syntect_pattern_compile.proofs.reader.Reader.bracket.Goals as goal

pub returns-clause-reads : goal.returns-clause-reads
returns-clause-reads c = λ known inner.
    ap (λ (o : Option (Set × Text)). o >>= λ x. grammar.item known (body_as c.args.self.now.builder.nodes c.args.body) (one_of x.0) (record { flags = flags_as c.args.here.flags; names = c.args.self.now.names; text = x.1 }))
    (ap (class c.args.here.flags.fold c.args.depth) (sym c.after.ensures) ∙ c.in_ok-root.ensures.reads ∙ ap (set_as c.class.new.self.parts) c.in-Some.is)
    ∙ c.in_ok-class_item.ensures.reads known
