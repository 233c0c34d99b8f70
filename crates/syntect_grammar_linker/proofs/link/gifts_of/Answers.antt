use Rattle.std.proofs.Common.{rules}
use Rattle.syntect_grammar_linker.proofs.LinkLaws.{gift_given}
use Rattle.syntect_grammar_linker.proofs.link.gifts_of.Goals as goal

pub loop-context_index-preserved : goal.loop-context_index-preserved
loop-context_index-preserved c =
    gift_given c.args.directory.now c.args.bodies.now c.args.syntax_index c.loop-context_index.context_index c.args.contexts.now c.index-contexts-context_index.result c.loop-context_index.gifts.items c.push.new.self.items _ _ c.prototype_of.result _ c.contains.result
    (search rules) c.index-contexts-context_index.is c.context_named-prototype.ensures (λ p e. c.in_ok-reached.ensures p _ e) (search rules) c.prototype_of.ensures c.in_ok-push.ensures.items c.loop-context_index.invariant
