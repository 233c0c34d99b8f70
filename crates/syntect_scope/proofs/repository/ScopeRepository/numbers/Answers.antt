use Rattle.std.proofs.Common.{◌∷◌, [], length, sym, ◌∙◌, arith, length-append, lit<}
use Rattle.std.proofs.lemmas.Iterator.Consumers.{YieldsList-at, YieldsList-turn, YieldsList-end}
use Rattle.std.proofs.lemmas.Iterator.Splits.{YieldsList-from_str_split}
use Rattle.std.proofs.lemmas.List.{length_push}
use Rattle.syntect_scope.proofs.RepositoryLaws.{texts_step, front_stays, given_more, too_many_grows, all_given}
use Rattle.syntect_scope.proofs.repository.ScopeRepository.numbers.Goals as goal

pub push-requires-clause-room : goal.push-requires-clause-room
push-requires-clause-room c =
    let parts = YieldsList-from_str_split 46 c.args.text.now (lit< tt) c.split-part-items.ensures.text c.split-part-items.ensures.has_more c.split-part-items.ensures.pattern in
    let yields = YieldsList-at c.into_iter-part-iterator.ensures.into_iter_gives parts in
    let turn = YieldsList-turn yields c.loop-part.yielded _ c.loop-part.yielded_by _ _ c.in-Some.part c.in-Some.is c.next.ensures.steps in
    omega (arith, turn.0, c.requires, c.loop-part.invariant.count)

pub returns-in-Err-clause-too_many : goal.returns-in-Err-clause-too_many
returns-in-Err-clause-too_many c =
    let parts = YieldsList-from_str_split 46 c.args.text.now (lit< tt) c.split-part-items.ensures.text c.split-part-items.ensures.has_more c.split-part-items.ensures.pattern in
    let yields = YieldsList-at c.into_iter-part-iterator.ensures.into_iter_gives parts in
    let turn = YieldsList-turn yields c.loop-part.yielded _ c.loop-part.yielded_by _ _ c.in-Some.part c.in-Some.is c.next.ensures.steps in
    λ e. too_many_grows _ c.args.self.now c.loop-part.self _ (length c.loop-part.yielded) turn.0 c.loop-part.invariant.added (rw turn.1 at c.in-Err.ensures.too_many e)

pub loop-part-preserved : goal.loop-part-preserved
loop-part-preserved c =
    let parts = YieldsList-from_str_split 46 c.args.text.now (lit< tt) c.split-part-items.ensures.text c.split-part-items.ensures.has_more c.split-part-items.ensures.pattern in
    let yields = YieldsList-at c.into_iter-part-iterator.ensures.into_iter_gives parts in
    let turn = YieldsList-turn yields c.loop-part.yielded _ c.loop-part.yielded_by _ _ c.in-Some.part c.in-Some.is c.next.ensures.steps in
    let more = length_push c.loop-part.yielded c.in-Some.part in
    record {
      added = rw (more, c.in-Ok.ensures.ok.0, turn.1) (sym (texts_step c.loop-part.self _ (length c.loop-part.yielded) _ turn.0) ∙ c.loop-part.invariant.added);
      given = rw (more, c.push.ensures) (given_more _ c.args.self.now c.loop-part.self c.loop-part.scope _ (length c.loop-part.yielded) turn.0 (rw turn.1 at c.in-Ok.ensures.ok.0) (rw turn.1 at c.in-Ok.ensures.ok.1) c.loop-part.invariant.added c.loop-part.invariant.given);
      grown = rw c.in-Ok.ensures.ok.0 (front_stays c.args.self.now c.loop-part.self (_ ∷ []) c.loop-part.invariant.grown);
      count = rw c.push.ensures (omega (arith, more, c.loop-part.invariant.count, length-append c.loop-part.scope (c.in-Ok.n ∷ [])));
      whole = c.in-Ok.ensures.whole;
    }

pub returns-clause-ok : goal.returns-clause-ok
returns-clause-ok c =
    let parts = YieldsList-from_str_split 46 c.args.text.now (lit< tt) c.split-part-items.ensures.text c.split-part-items.ensures.has_more c.split-part-items.ensures.pattern in
    let yields = YieldsList-at c.into_iter-part-iterator.ensures.into_iter_gives parts in
    let end = YieldsList-end yields c.loop-part.yielded _ c.loop-part.yielded_by _ _ c.in-None.is c.next.ensures.steps in
    all_given c.args.self.now c.loop-part.self _ (length c.loop-part.yielded) c.loop-part.scope end.1 c.loop-part.invariant.added c.loop-part.invariant.given
