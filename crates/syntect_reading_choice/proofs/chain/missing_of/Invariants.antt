use Rattle.std.proofs.Common.{◌≡◌, find, drop}
use Rattle.std.specs.Prelude.{is_none}
use Rattle.syntect_reading_choice.specs.syntect_grammar.Contexts.{context_at}
use Rattle.syntect_reading_choice.proofs.chain.missing_of.Given as goal

abbrev pub invariant-loop-id : goal.invariant-loop-id
invariant-loop-id l = find (λ id. is_none (context_at l.set id)) (drop l.id-index l.ids) ≡ find (λ id. is_none (context_at l.set id)) l.ids
