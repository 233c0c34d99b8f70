use Rattle.syntect_scope.proofs.HookLaws.{told_or_not}
use Rattle.syntect_scope.proofs.stack.ScopeStack.apply_with_hook.Goals as goal

pub returns-clause-told : goal.returns-clause-told
returns-clause-told g c = (c.apply_telling.new.hook, told_or_not g.F.FnMut _ _ _ c.apply_telling.result c.apply_telling.ensures.told c.apply_telling.ensures.silent)
