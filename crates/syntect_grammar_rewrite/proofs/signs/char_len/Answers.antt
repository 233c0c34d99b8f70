use Rattle.std.proofs.Common.{◌≡◌, ◌+◌, sym, subst, arith}
use Rattle.std.proofs.lemmas.Grind.{common_steps}
use Rattle.std.specs.Str.{IsCharBoundary}
use Rattle.syntect_grammar_rewrite.specs.Cutting.{char_len}
use Rattle.syntect_grammar_rewrite.proofs.CuttingLaws.{char_lens, char_boundary}
use Rattle.syntect_grammar_rewrite.proofs.signs.char_len.Goals as goal

pub returns-clause-boundary : goal.returns-clause-boundary
returns-clause-boundary c =
    let len : 1 + c.tail_len.result ≡ char_len c.args.text.now = grind (arith, common_steps, char_lens) in
    subst (IsCharBoundary c.args.text.now) (sym len) (char_boundary c.args.text.now)
