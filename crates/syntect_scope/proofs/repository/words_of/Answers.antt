use Rattle.std.proofs.Common.{length, ap, sym, subst}
use Rattle.std.specs.Str.{IsUtf8}
use Rattle.std.specs.Str.Iter.{split_whitespace_steps, split_whitespace_rest}
use Rattle.std.proofs.lemmas.Iterator.{YieldsList}
use Rattle.std.proofs.lemmas.Iterator.Consumers.{map_from_collect}
use Rattle.std.proofs.lemmas.Iterator.Splits.{YieldsList-from_shown_while}
use Rattle.syntect_scope.specs.Words.{words}
use Rattle.syntect_scope.proofs.WordLaws.{word_step, word_end}
use Rattle.syntect_scope.proofs.repository.words_of.Goals as goal

pub returns : goal.returns
returns c =
    let yields : YieldsList split_whitespace_steps (λ x. x.now) c.split_whitespace.result (words (split_whitespace_rest c.split_whitespace.result)) =
    YieldsList-from_shown_while split_whitespace_steps (λ x. x.now) (λ s. words (split_whitespace_rest s)) (λ s. IsUtf8 (split_whitespace_rest s))
    (λ s t u h. ap length (word_end (split_whitespace_rest s) u h.1))
    (λ s x t u h. word_step (split_whitespace_rest s) h.0 x.now (split_whitespace_rest t) h.5.0 u h.1 h.2 h.3 h.4 h.5.1)
    c.split_whitespace.result (subst IsUtf8 (sym c.split_whitespace.ensures.rest) c.utf8.s) in
    map_from_collect _ c.collect.ensures.ran (subst (YieldsList split_whitespace_steps (λ x. x.now) c.split_whitespace.result) (ap words c.split_whitespace.ensures.rest) yields)
