use Rattle.std.proofs.Common.{refl, ◌≡◌, []}
use Rattle.syntect_style.proofs.ItemLaws.{passed-more, gives-last, gives-piece, gives-error, none_first}
use Rattle.syntect_style.proofs.pieces.RangedHighlightIteratorIterator.next.Goals as goal

pub loop-first-preserved : goal.loop-first-preserved
loop-first-preserved c = passed-more {o = c.in-Some.first.now} {os = c.in-Some.others.now} c.loop-first.invariant c.in-Some.ensures.cases.0
    (record { text = refl; highlighter = refl; state = refl; keeps = c.in-Ok-None.ensures.keeps; changes = refl; pos = refl })
    (rw c.in-Ok-None.field-0-is at c.in-Ok-None.ensures.piece) c.in-Ok-None.ensures.applied c.in-Ok-None.ensures.ok

pub returns-in-Ok-clause-steps : goal.returns-in-Ok-clause-steps
returns-in-Ok-clause-steps c =
    let e : c.loop-first.self.changes.now ≡ [] = none_first c.split_first.ensures.cases c.in_default.not-Some in
    gives-last c.loop-first.invariant e c.if-from-to.false
    (record { text = refl; highlighter = refl; state = refl; keeps = c.in-Ok.ensures.keeps; changes = e; pos = refl })
    c.in-Ok.ensures.path _ (record { style = λ k. c.in-Ok.ensures.style k; text_of = c.range.ensures.value; from = refl; to = refl })

pub returns-in-Err-clause-steps : goal.returns-in-Err-clause-steps
returns-in-Err-clause-steps c = gives-error {o = c.in-Some.first.now} {os = c.in-Some.others.now} c.in-Err.e c.loop-first.invariant c.in-Some.ensures.cases.0
    (record { text = refl; highlighter = refl; state = refl; keeps = c.in-Err.ensures.keeps; changes = refl; pos = refl })
    c.in-Err.ensures.err c.in-Err.ensures.none

pub returns-in-Ok-Some-clause-steps : goal.returns-in-Ok-Some-clause-steps
returns-in-Ok-Some-clause-steps c =
    let shown = rw c.in-Ok-Some.field-0-is at c.in-Ok-Some.ensures.piece in
    gives-piece {o = c.in-Some.first.now} {os = c.in-Some.others.now} c.loop-first.invariant c.in-Some.ensures.cases.0
    (record { text = refl; highlighter = refl; state = refl; keeps = c.in-Ok-Some.ensures.keeps; changes = refl; pos = refl })
    c.in-Ok-Some.ensures.applied c.in-Ok-Some.ensures.ok c.in-Ok-Some.piece shown.0 shown.1
