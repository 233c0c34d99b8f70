use Rattle.std.proofs.Common.{rules, ◌≡◌, sym, ◌+◌, ◌≤◌, List, length, subst, map, find, ap, ◌∙◌}
use Rattle.std.specs.List.{flat_map}
use Rattle.syntect_reading_choice.specs.Chain.{Member, chain_at}
use Rattle.syntect_reading_choice.specs.Parts.{seen_part, part_members}
use Rattle.syntect_reading_choice.specs.Steps.{ArePutWithin, AreWithin, turn_work}
use Rattle.syntect_reading_choice.proofs.PartLaws.{parts_make_chain}
use Rattle.syntect_parsing.proofs.ChainLaws.{chain_wins, chain_steps}
use Rattle.syntect_parsing.proofs.WorkLaws.{chain_known}
use Rattle.syntect_parsing.proofs.turn.best_match.Goals as goal

pub returns-clause-chosen : goal.returns-clause-chosen
returns-clause-chosen c =
    chain_steps c.args.reader.now.set.now c.args.reader.now.line.now c.args.reader.now.position.now c.in-Some.top.now c.in-Some-context_at.context.now (flat_map (part_members c.args.reader.now.set.now) c.as_slice-2.result.now) c.in_ok-best_of_chain.field-0
    (search rules) (search rules) (λ f. ap (find f)
    (parts_make_chain c.args.reader.now.set.now c.args.reader.now.position.now c.in-Some.top.now c.in-Some-context_at.context.now c.as_slice-2.result.now
    (ap (map seen_part) c.as_slice-2.ensures.value ∙ c.in_ok-parts.ensures))) c.in_ok-best_of_chain.ensures.best c.in_default-missing_prototype.ensures

pub returns-clause-wins : goal.returns-clause-wins
returns-clause-wins c =
    chain_wins c.args.reader.now.set.now c.args.reader.now.line.now c.args.reader.now.position.now c.in-Some.top.now c.in-Some-context_at.context.now (flat_map (part_members c.args.reader.now.set.now) c.as_slice-2.result.now) c.in_ok-best_of_chain.field-0
    (search rules) (search rules) (λ f. ap (find f)
    (parts_make_chain c.args.reader.now.set.now c.args.reader.now.position.now c.in-Some.top.now c.in-Some-context_at.context.now c.as_slice-2.result.now
    (ap (map seen_part) c.as_slice-2.ensures.value ∙ c.in_ok-parts.ensures))) c.in_ok-best_of_chain.ensures.best

pub returns-clause-steps : goal.returns-clause-steps
returns-clause-steps c = λ most put all few.
    let same : flat_map (part_members c.args.reader.now.set.now) c.as_slice-2.result.now ≡ chain_at c.args.reader.now.set.now c.args.reader.now.position.now =
    parts_make_chain c.args.reader.now.set.now c.args.reader.now.position.now c.in-Some.top.now c.in-Some-context_at.context.now c.as_slice-2.result.now
    (ap (map seen_part) c.as_slice-2.ensures.value ∙ c.in_ok-parts.ensures)
    ∙ chain_known c.args.reader.now.set.now c.args.reader.now.position.now c.in-Some.top.now c.in-Some-context_at.context.now (search rules) (search rules) in
    subst (λ (ms : List Member). c.best_of_chain.new.regions.steps.made ≤ c.args.regions.now.steps.made + turn_work (length ms) most put (length c.args.reader.now.line.now)) same
    (c.in_ok-best_of_chain.ensures.steps most put (subst (λ (ms : List Member). AreWithin (length c.args.reader.now.line.now) most ms) (sym same) all)
    (subst (λ (ms : List Member). ArePutWithin put ms) (sym same) few))
