use Rattle.std.proofs.Common.{◌≡◌, ◌∙◌, ap, map, sym}
use Rattle.syntect_theme.specs.syntect_scope.Words.{words}
use Rattle.syntect_theme.specs.Texts.{wrong_word}
use Rattle.syntect_theme.proofs.FlagLaws.{known_more, given_more, refused_word, text_refused}
use Rattle.syntect_theme.proofs.style.FontStyle.from_text.Goals as goal

pub loop-word-preserved : goal.loop-word-preserved
loop-word-preserved c = record {
  known = known_more _ c.deref-word-items.result.now c.loop-word.word-index c.in-Some.flags.bits c.loop-word-test.true c.in-Some.ensures c.loop-word.invariant.known;
  given = given_more _ c.loop-word.all.bits c.deref-word-items.result.now c.loop-word.word-index c.in-Some.flags.bits c.loop-word-test.true c.in-Some.ensures c.insert.ensures c.loop-word.invariant.given;
}

pub returns-in-None-clause-err : goal.returns-in-None-clause-err
returns-in-None-clause-err c h =
    let read : map (λ x. x.now) c.deref-word-items.result.now ≡ words c.args.s.now = ap (map (λ x. x.now)) c.deref-word-items.ensures.value ∙ c.in_ok-words_of.ensures in
    text_refused c.args.s.now _ c.in_ok-from_str-in-None.field-0 (ap wrong_word (sym read) ∙ refused_word _ c.deref-word-items.result.now c.loop-word.word-index c.loop-word-test.true c.in-None.ensures c.loop-word.invariant.known) c.in_ok-from_str-in-None.ensures
