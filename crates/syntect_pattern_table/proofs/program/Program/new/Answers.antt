use Rattle.std.proofs.Common.{List, arith, ap, subst, ◌∙◌}
use Rattle.syntect_pattern_table.specs.Table.{trees}
use Rattle.syntect_pattern_table.specs.Jumps.{AreJumps}
use Rattle.syntect_pattern_table.specs.Lengths.{AreLengths}
use Rattle.syntect_pattern_table.specs.declared.node.Node.{Node}
use Rattle.syntect_pattern_table.specs.declared.starts.Places.{Places}
use Rattle.syntect_pattern_table.specs.Starts.{is_in}
use Rattle.syntect_pattern_table.proofs.PlaceListLaws.{places_or}
use Rattle.syntect_pattern_table.proofs.program.Program.new.Goals as goal

pub invariant_of-result-clause-jumping : goal.invariant_of-result-clause-jumping
invariant_of-result-clause-jumping c =
    ∣ subst (λ (nodes : List Node). AreJumps c.long_from-jumps_from.result c.in_ok-jumps.jumps (trees nodes)) c.as_slice-2.ensures c.in_ok-jumps.ensures ∣₁

pub invariant_of-result-clause-measured : goal.invariant_of-result-clause-measured
invariant_of-result-clause-measured c = subst (λ (nodes : List Node). AreLengths c.in_ok-lengths.lengths (trees nodes)) c.as_slice-3.ensures c.in_ok-lengths.ensures

pub returns-clause-starts : goal.returns-clause-starts
returns-clause-starts c x l =
    c.in_ok-starts.ensures x l ∙ ap (λ (p : Places). is_in p x) (places_or c.args.firsts c.args.root c.get.result c.unwrap_or.result c.nowhere.result c.get.ensures c.unwrap_or.ensures)
    ∙ c.requires.begun c.args.root x c.nowhere.result (omega (arith, c.requires.inside, c.requires.count)) l
