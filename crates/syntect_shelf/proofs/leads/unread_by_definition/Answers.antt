use Rattle.std.proofs.Common.{rules}
use Rattle.syntect_shelf.specs.Places.{places_of_context}
use Rattle.syntect_shelf.proofs.UnreadLaws.{rest_there, rest_behind}
use Rattle.syntect_shelf.proofs.leads.unread_by_definition.Goals as goal

pub returns-then-is_some : goal.returns-then-is_some
returns-then-is_some c =
    rest_there c.args.whole.now (λ e. places_of_context c.args.definitions.now e.1) c.args.definition.now.contexts c.next.new.self c.loop-context.context-iterator (c.in-Some.field-0-0.now, c.in-Some.context.now) c.unread_by_context-found.result
    c.in-Some.ensures.steps c.unread_by_context-found.ensures c.loop-context.invariant (search rules)

pub loop-context-preserved : goal.loop-context-preserved
loop-context-preserved c =
    rest_behind c.args.whole.now (λ e. places_of_context c.args.definitions.now e.1) c.args.definition.now.contexts c.next.new.self c.loop-context.context-iterator (c.in-Some.field-0-0.now, c.in-Some.context.now) c.unread_by_context-found.result
    c.in-Some.ensures.steps c.unread_by_context-found.ensures c.loop-context.invariant (search rules)
