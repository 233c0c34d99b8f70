use Rattle.syntect_grammar_rewrite.proofs.VanishLaws.{all-more}
use Rattle.std.proofs.Common.{refl, true}
use Rattle.syntect_grammar_rewrite.proofs.expand.settle.Goals as goal

pub returns-in_ok-remember : goal.returns-in_ok-remember
returns-in_ok-remember c e us h all =
    all-more c.args.name us c.args.known.now c.remember.new.known true (c.in_ok-remember.ensures refl) (h c.if-vanishes.true) all
