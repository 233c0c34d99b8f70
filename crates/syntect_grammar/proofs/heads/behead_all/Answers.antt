use Rattle.std.proofs.Common.{rules}
use Rattle.syntect_grammar.proofs.HeadLaws.{heads_step, many_step, bodies_step}
use Rattle.syntect_grammar.proofs.heads.behead_all.Goals as goal

pub loop-definition-preserved : goal.loop-definition-preserved
loop-definition-preserved c = record {
  heads = heads_step _ c.loop-definition.yielded c.in-Some.definition _ c.loop-definition.heads.items _ (search rules) c.loop-definition.invariant.heads c.loop-definition.invariant.many c.in_ok-head.ensures.head (search rules);
  many = many_step c.loop-definition.yielded c.in-Some.definition _ c.loop-definition.heads.items _ c.loop-definition.invariant.many c.in_ok-push.ensures.items;
  bodies = bodies_step c.loop-definition.yielded c.in-Some.definition _ c.loop-definition.bodies.items _ c.loop-definition.invariant.bodies c.in_ok-head.ensures.body c.in_ok-push-2.ensures.items;
}
