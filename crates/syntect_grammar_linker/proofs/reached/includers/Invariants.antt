use Rattle.std.proofs.Common.{◌≡◌, [], take}
use Rattle.std.specs.HashMap as hash
use Rattle.std.specs.Option.{option_map_or}
use Rattle.syntect_grammar_contexts.specs.Contexts.{is_same}
use Rattle.syntect_grammar_linker.specs.Inclusions.{includers_in}
use Rattle.syntect_grammar_contexts.specs.declared.context.ContextId.{ContextId}
use Rattle.syntect_grammar_linker.proofs.reached.includers.Given as goal

abbrev pub invariant-loop-inclusion : goal.invariant-loop-inclusion
invariant-loop-inclusion l = (id : ContextId) → option_map_or (λ v. v.items) (hash.get is_same l.includers id) [] ≡ includers_in (take l.inclusion-index l.inclusions) id
