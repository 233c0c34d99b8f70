use Rattle.std.proofs.Common.{◌≡◌, ◌+◌, ◌-◌, arith, subst}
use Rattle.std.proofs.lemmas.Str.{IsCharBoundary-after_ascii}
use Rattle.std.specs.Str.{IsCharBoundary}
use Rattle.syntect_grammar_rewrite.proofs.CuttingLaws.{inside}
use Rattle.syntect_grammar_rewrite.proofs.signs.skip.Goals as goal

pub split_at-requires : goal.split_at-requires
split_at-requires c =
    let text = c.args.text.now in
    let last = c.args.n - 1 in
    let more : last + 1 ≡ c.args.n = omega (arith, c.requires.some) in
    subst (IsCharBoundary text) more (IsCharBoundary-after_ascii text last c.utf8.text (inside text last c.requires.there) c.requires.ascii)
