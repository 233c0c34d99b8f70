use Rattle.std.proofs.Common.{◌≡◌, ◌+◌, Bool, length, take, if◌then◌else◌, ◌∙◌, sym, ap, arith, lit<}
use Rattle.std.proofs.lemmas.Iterator.Consumers.{YieldsList-at, YieldsList-turn, YieldsList-end}
use Rattle.std.proofs.lemmas.Iterator.Splits.{YieldsList-from_str_split}
use Rattle.std.proofs.lemmas.List.{length_push, length-take, take_all}
use Rattle.syntect_scope.specs.Repository.{with_atoms, between_dots}
use Rattle.syntect_scope.proofs.RepositoryLaws.{counted_more, grown_most}
use Rattle.syntect_scope.proofs.repository.ScopeRepository.count_with.Goals.{then-lacks, else-lacks}
use Rattle.syntect_scope.proofs.repository.ScopeRepository.count_with.Goals as goal

pub overflow_add-count : goal.overflow_add-count
overflow_add-count c =
    let parts = between_dots c.args.text.now in
    omega (arith, c.is_whole.ensures.limit, c.requires, c.loop-part.invariant.counted, grown_most c.args.self.now (take (length c.loop-part.yielded) parts), length-take (length c.loop-part.yielded) parts)

pub loop-part-preserved : goal.loop-part-preserved
loop-part-preserved c =
    let parts = YieldsList-from_str_split 46 c.args.text.now (lit< tt) c.split-part-items.ensures.text c.split-part-items.ensures.has_more c.split-part-items.ensures.pattern in
    let yields = YieldsList-at c.into_iter-part-iterator.ensures.into_iter_gives parts in
    let turn = YieldsList-turn yields c.loop-part.yielded _ c.loop-part.yielded_by _ _ c.in-Some.part c.in-Some.is c.next.ensures.steps in
    let more = length_push c.loop-part.yielded c.in-Some.part in
    let later : c.if-lacks.count ≡ c.loop-part.count + (if c.lacks.result then 1 else 0) = elim c.if-lacks.branch [
      | then-lacks w ↦ w.count-is ∙ ap (λ (b : Bool). c.loop-part.count + (if b then 1 else 0)) (sym w.if-lacks.true)
      | else-lacks w ↦
          let none : c.loop-part.count ≡ c.loop-part.count + 0 = omega arith in
          w.count-is ∙ none ∙ ap (λ (b : Bool). c.loop-part.count + (if b then 1 else 0)) (sym w.if-lacks.false)
    ] in
    record {
      counted = rw more (counted_more _ c.args.self.now (between_dots c.args.text.now) (length c.loop-part.yielded) c.loop-part.before c.loop-part.count c.if-lacks.count c.in-Some.part.now c.lacks.result turn.0 turn.1 c.loop-part.invariant.before c.loop-part.invariant.counted c.lacks.ensures later);
      before = omega (arith, more, c.loop-part.invariant.before);
    }

pub returns : goal.returns
returns c =
    let parts = YieldsList-from_str_split 46 c.args.text.now (lit< tt) c.split-part-items.ensures.text c.split-part-items.ensures.has_more c.split-part-items.ensures.pattern in
    let yields = YieldsList-at c.into_iter-part-iterator.ensures.into_iter_gives parts in
    let end = YieldsList-end yields c.loop-part.yielded _ c.loop-part.yielded_by _ _ c.in-None.is c.next.ensures.steps in
    c.loop-part.invariant.counted ∙ ap (λ ts. length (with_atoms c.args.self.now ts)) (take_all (length c.loop-part.yielded) (between_dots c.args.text.now) (omega (arith, end.1)))
