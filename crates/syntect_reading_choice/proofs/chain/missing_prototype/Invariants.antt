use Rattle.std.proofs.Common.{◌≡◌, ◌++◌, find, drop}
use Rattle.std.specs.Prelude.{is_none}
use Rattle.std.specs.List.{flat_map}
use Rattle.std.specs.Option.{option_to_list}
use Rattle.syntect_reading_choice.specs.syntect_grammar.Contexts.{context_at}
use Rattle.syntect_reading_choice.specs.Chain.{prototypes_in}
use Rattle.syntect_reading_choice.proofs.chain.missing_prototype.Given as goal

abbrev pub invariant-loop-level : goal.invariant-loop-level
invariant-loop-level l =
    find (λ id. is_none (context_at l.reader.set.now id)) (flat_map (λ k. k.prototypes) (drop l.level-index l.level-items) ++ option_to_list l.context.prototype)
    ≡ find (λ id. is_none (context_at l.reader.set.now id)) (prototypes_in l.reader.position.now l.context)
