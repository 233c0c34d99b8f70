use Rattle.std.proofs.Common.{ap, ◌∙◌}
use Rattle.syntect_pattern.specs.Grammar.{escaped}
use Rattle.syntect_pattern_words.specs.EscapeViews.{escape_of}
use Rattle.syntect_pattern_words.specs.OpeningViews.{place_as}
use Rattle.syntect_pattern_compile.specs.ReaderViews.{body_as}
use Rattle.syntect_pattern_compile.proofs.reader.Reader.escaped.Goals as goal

pub returns-in_ok-char_item-in-Char-clause-reads : goal.returns-in_ok-char_item-in-Char-clause-reads
returns-in_ok-char_item-in-Char-clause-reads c = λ groups _.
    ap (λ e. escaped groups (body_as c.args.self.now.builder.nodes c.args.body) (place_as c.args.self.now.names c.args.place) (escape_of e)) c.in-Char.is
    ∙ c.in_ok-char_item-in-Char.ensures.reads groups

pub returns-in_ok-named_item-in-Set-clause-reads : goal.returns-in_ok-named_item-in-Set-clause-reads
returns-in_ok-named_item-in-Set-clause-reads c = λ groups _.
    ap (λ e. escaped groups (body_as c.args.self.now.builder.nodes c.args.body) (place_as c.args.self.now.names c.args.place) (escape_of e)) c.in-Set.is
    ∙ c.in_ok-named_item-in-Set.ensures.reads groups

pub returns-in_ok-anchor_item-in-Edge-clause-reads : goal.returns-in_ok-anchor_item-in-Edge-clause-reads
returns-in_ok-anchor_item-in-Edge-clause-reads c = λ groups _.
    ap (λ e. escaped groups (body_as c.args.self.now.builder.nodes c.args.body) (place_as c.args.self.now.names c.args.place) (escape_of e)) c.in-Edge.is
    ∙ c.in_ok-anchor_item-in-Edge.ensures.reads groups
