use Rattle.syntect_style.proofs.Digits.{by_place, by_digit}
use Rattle.syntect_style.proofs.scores.SingleScore.beats.Goals as goal

pub returns-then-place-other_place : goal.returns-then-place-other_place
returns-then-place-other_place c =
    by_place _ _ _ _ _ _ _ c.leading-place.ensures.value c.leading-other_place.ensures.value c.leading-place.ensures.zero c.leading-other_place.ensures.zero
    c.leading-place.ensures.digit c.leading-other_place.ensures.digit c.if-place-other_place.true

pub returns-then-digit-other_digit : goal.returns-then-digit-other_digit
returns-then-digit-other_digit c =
    by_digit c.leading-place.result.1 c.leading-other_place.result.1 c.leading-other_place.result.0 _ _ _
    (rw c.if-place-other_place.false at c.leading-place.ensures.value) c.leading-other_place.ensures.value c.if-digit-other_digit.true
