use Rattle.std.proofs.Common.{◌+◌, ◌||◌, ◌∙◌, List, ap, arith, refl, subst, sym}
use Rattle.syntect_pattern.specs.Trees.{Tree}
use Rattle.syntect_pattern_table.specs.Table.{trees}
use Rattle.syntect_pattern_table.specs.Jumps.{IsJump, jump_to, places_of}
use Rattle.syntect_pattern_table.specs.Starts.{is_in}
use Rattle.syntect_pattern_table.specs.declared.jumps.Jump.{Jump}
use Rattle.syntect_pattern_table.specs.declared.starts.Places.{Places}
use Rattle.syntect_pattern_table.proofs.JumpLaws.{jump-first, jump-then}
use Rattle.syntect_pattern_table.proofs.jumps.jump_from.Goals as goal

pub returns-then-near-lt-FAR : goal.returns-then-near-lt-FAR
returns-then-near-lt-FAR c =
    let ts : List Tree = trees c.args.nodes.now in
    let near : Jump = c.in-Some.near in
    let far : Jump = c.in-Some-jump_of.far in
    let rest : Jump = jump_to far.to (near.count + far.count) c.either-behind.result in
    let one : Jump = jump_to c.in-Alternation.second 1 c.unwrap_or-places.result in
    subst (IsJump ts c.args.place) (sym c.new-then-near-lt-FAR.ensures)
    (jump-then ts c.args.place one rest (near.count + far.count + 1) c.either.result
    (jump-first c.args.nodes.now c.requires.ordered c.args.place c.index-nodes-place.result c.requires.inside c.index-nodes-place.is c.in-Alternation.first c.in-Alternation.second c.in-Alternation.is
    c.args.firsts.now c.requires.count c.requires.firsts c.get.result c.unwrap_or-places.result c.nowhere-2.result c.get.ensures c.unwrap_or-places.ensures)
    (jump-then ts c.in-Alternation.second near far (near.count + far.count) c.either-behind.result (c.in-Some.ensures ts c.requires.jumps) (c.in-Some-jump_of.ensures ts c.requires.jumps) refl
    (λ x.
    c.either-behind.ensures x
    ∙ ap (λ (p : Places). is_in p x || is_in c.places-then-near-lt-FAR.result x) c.places.ensures
    ∙ ap (λ (p : Places). is_in (places_of near) x || is_in p x) c.places-then-near-lt-FAR.ensures))
    (omega arith) c.either.ensures)

pub returns : goal.returns
returns c =
    subst (IsJump (trees c.args.nodes.now) c.args.place) (sym c.new-2.ensures)
    (jump-first c.args.nodes.now c.requires.ordered c.args.place c.index-nodes-place.result c.requires.inside c.index-nodes-place.is c.in-Alternation.first c.in-Alternation.second c.in-Alternation.is
    c.args.firsts.now c.requires.count c.requires.firsts c.get.result c.unwrap_or-places.result c.nowhere-2.result c.get.ensures c.unwrap_or-places.ensures)
