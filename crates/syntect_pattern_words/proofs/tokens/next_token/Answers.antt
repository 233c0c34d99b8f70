use Rattle.std.specs.Prelude.{chars}
use Rattle.std.proofs.Common.{sym}
use Rattle.syntect_pattern_words.proofs.TokenLaws.{next-none, next-first}
use Rattle.syntect_pattern_words.proofs.tokens.next_token.Goals as goal

pub returns-in-Some : goal.returns-in-Some
returns-in-Some c = next-first (chars c.args.text.now) c.in-Some.c c.token_of.result (sym c.in-Some.ensures) c.token_of.ensures

pub returns-in-None : goal.returns-in-None
returns-in-None c = next-none (chars c.args.text.now) (sym c.in-None.ensures)
