use Rattle.std.specs.Prelude.{chars}
use Rattle.std.proofs.Common.{sym, ap, refl, ◌∙◌, ◌≡◌, true, false}
use Rattle.syntect_pattern_table.specs.Builder.{tree_in}
use Rattle.syntect_pattern_words.specs.OpeningViews.{place_as}
use Rattle.syntect_pattern_compile.specs.ReaderViews.{tree_as}
use Rattle.syntect_pattern_compile.proofs.WholeLaws.{whole-stuck, whole-more, whole-read}
use Rattle.syntect_pattern_compile.proofs.compiler.read_whole.Goals as goal

pub returns-in_default-clause-reads : goal.returns-in_default-clause-reads
returns-in_default-clause-reads c =
    whole-stuck c.args.known.now c.in_ok-reader.reader.names c.in_ok-reader.ensures (chars c.args.text.now) (c.in_ok-body.ensures.reads c.args.known.now (λ _. refl) ∙ ap (tree_as c.body.new.self) c.in_default.is)

pub returns-then-not-is_empty-clause-reads : goal.returns-then-not-is_empty-clause-reads
returns-then-not-is_empty-clause-reads c =
    whole-more c.args.known.now c.in_ok-reader.reader.names c.in_ok-reader.ensures (chars c.args.text.now)
    (tree_in c.body.new.self.builder.nodes c.in-Some.body) (place_as c.body.new.self.names c.in-Some.last)
    (c.in_ok-body.ensures.reads c.args.known.now (λ _. refl) ∙ ap (tree_as c.body.new.self) c.in-Some.is) (sym c.is_empty.ensures ∙ c.if-not-is_empty.true)

pub returns-clause-reads : goal.returns-clause-reads
returns-clause-reads c =
    whole-read c.args.known.now c.in_ok-reader.reader.names c.in_ok-reader.ensures (chars c.args.text.now)
    (tree_in c.body.new.self.builder.nodes c.in-Some.body) (place_as c.body.new.self.names c.in-Some.last)
    (c.in_ok-body.ensures.reads c.args.known.now (λ _. refl) ∙ ap (tree_as c.body.new.self) c.in-Some.is) (sym c.is_empty.ensures ∙ c.if-not-is_empty.false)

pub returns-clause-alone : goal.returns-clause-alone
returns-clause-alone c = λ none other.
    whole-read other c.in_ok-reader.reader.names c.in_ok-reader.ensures (chars c.args.text.now)
    (tree_in c.body.new.self.builder.nodes c.in-Some.body) (place_as c.body.new.self.names c.in-Some.last)
    (c.in_ok-body.ensures.reads other (λ e. let clash : true ≡ false = sym e ∙ none in cc) ∙ ap (tree_as c.body.new.self) c.in-Some.is) (sym c.is_empty.ensures ∙ c.if-not-is_empty.false)
