use Rattle.std.proofs.Common.{ap, ◌∙◌, sym, Option}
use Rattle.syntect_pattern.specs.Reading.{Text, ◌>>=◌}
use Rattle.syntect_pattern.specs.Escapes.{Escape, escape}
use Rattle.syntect_pattern_words.specs.EscapeViews as views
use Rattle.syntect_pattern.specs.Grammar.{escaped}
use Rattle.syntect_pattern_words.specs.OpeningViews.{flags_as}
use Rattle.syntect_pattern_compile.specs.ReaderViews.{body_as}
use Rattle.syntect_pattern_compile.proofs.reader.Reader.backslash.Goals as goal

pub returns-clause-reads : goal.returns-clause-reads
returns-clause-reads c = λ groups serves inner depth.
    ap (λ (o : Option (Escape × Text)). o >>= λ x. escaped groups (body_as c.args.self.now.builder.nodes c.args.body) (record { flags = flags_as c.args.here.flags; names = c.args.self.now.names; text = x.1 }) x.0)
    (ap escape (sym c.after.ensures) ∙ c.read_escape.ensures ∙ ap views.escaped c.in-Some.is)
    ∙ c.in_ok-escaped.ensures.reads groups serves
