use Rattle.std.proofs.Common.{◌≡◌, ◌+◌, arith, false, length, refl, rules}
use Rattle.syntect_parsing.proofs.syntect_count_proofs.MeterLaws.{advances-none, advances-on}
use Rattle.syntect_reading_choice.specs.Engine.{dialect}
use Rattle.syntect_reading_choice.proofs.Finds.{finds_in_order}
use Rattle.syntect_parsing.specs.Line.{here}
use Rattle.syntect_parsing.proofs.Falls.{goes_falls}
use Rattle.syntect_parsing.proofs.BoundLaws.{count-end, count-passed, count-refused, count-bound, count-told}
use Rattle.syntect_parsing.proofs.PrototypeLaws.{takes_most}
use Rattle.syntect_parsing.proofs.WorkLaws.{few_since, no_fewer_since, one_since, steps-end, steps-more, steps-start}
use Rattle.syntect_parsing.proofs.Runs.{so_far-start, so_far-more, so_far-end}
use Rattle.syntect_parsing.proofs.WithinLaws.{few_more, few_none, levels-end, levels-more, levels-start, so_far-stopped, stands-here, stands-there, stops-here, unless_stopped}
use Rattle.syntect_parsing.proofs.parser.read_line.Goals as goal

pub each-init : goal.each-init
each-init c = record {
  known = c.begin_line.ensures c.args.set.now c.args.line.now;
  read = rw (c.in-Ok-at_start.ensures, c.in-Ok.ensures) (so_far-start c.args.set.now c.args.line.now c.args.state.now c.args.count.now.made c.utf8.line);
  advances = advances-none c.args.regions.now.steps;
  few = few_none c.args.limits.now.turns c.args.count.now.made;
  steps = rw c.in-Ok-at_start.ensures (steps-start c.args.set.now c.args.line.now c.args.state.now _ c.args.regions.now.steps.made);
  levels = rw c.in-Ok-at_start.ensures (levels-start c.args.set.now c.args.line.now c.args.state.now c.args.limits.now.levels);
}

pub returns-in-Err-turn-clause-refused : goal.returns-in-Err-turn-clause-refused
returns-in-Err-turn-clause-refused c = so_far-stopped c.each.invariant.read c.in-Err-turn.e c.in-Err-turn.ensures.refused c.turn.new.regions.steps c.in-Err-turn.ensures.stops c.requires

pub each-smaller : goal.each-smaller
each-smaller c =
    let t = rw c.in-Ok-true.field-0-test at c.in-Ok-true.ensures.turns in
    (goes_falls dialect c.args.line.now (finds_in_order dialect c.dialect_finds_in_text.ensures c.args.line.now c.utf8.line) c.args.set.now c.each.p c.turn.new.p t.bytes
    c.each.invariant.read.within c.each.invariant.read.few t.goes).0

pub each-preserved : goal.each-preserved
each-preserved c =
    let t = rw c.in-Ok-true.field-0-test at c.in-Ok-true.ensures.turns in
    record {
      known = c.in-Ok-true.ensures.known;
      read = so_far-more c.each.invariant.read t
          (goes_falls dialect c.args.line.now (finds_in_order dialect c.dialect_finds_in_text.ensures c.args.line.now c.utf8.line) c.args.set.now c.each.p c.turn.new.p t.bytes
          c.each.invariant.read.within c.each.invariant.read.few t.goes) c.turn.new.count.made c.turn.ensures.counted _ (search rules);
      advances = advances-on _ _ _ c.each.invariant.advances c.turn.ensures.advances;
      few = few_more c.each.invariant.read.count c.args.limits.now.turns (rw c.in_default.is at c.limit_at.ensures.turns) c.limit_at.ensures.small c.turn.new.count.made c.turn.ensures.counted;
      steps = steps-more c.each.invariant.steps c.in-Ok-true.ensures.steps c.turn.new.p t.bytes t.goes _ (one_since c.each.invariant.read.count c.turn.new.count.made c.turn.ensures.counted);
      levels = levels-more c.args.set.now c.args.line.now c.args.state.now c.args.limits.now.levels c.each.p c.turn.new.p t.bytes t.goes (rw c.in_default.is at c.limit_at.ensures.levels) c.each.invariant.levels;
    }

pub returns-clause-accepted : goal.returns-clause-accepted
returns-clause-accepted c = rw c.into_seq.ensures (so_far-end c.each.invariant.read (rw c.in-Ok-false.field-0-test at c.in-Ok-false.ensures.turns) c.requires)

pub returns-clause-taken : goal.returns-clause-taken
returns-clause-taken c =
    let t = rw c.in-Ok-false.field-0-test at c.in-Ok-false.ensures.turns in
    count-end c.each.invariant.read.count c.requires t.bytes (record { levels = c.turn.new.p.levels; cuts = c.turn.new.p.cuts; first_line = false }) t.ends c.turn.new.count.made c.turn.ensures.counted

pub returns-clause-bound : goal.returns-clause-bound
returns-clause-bound c = count-bound c.each.invariant.read.count c.turn.new.count.made c.turn.ensures.counted

pub returns-in-Err-turn-clause-no_more : goal.returns-in-Err-turn-clause-no_more
returns-in-Err-turn-clause-no_more c = count-refused c.each.invariant.read.count c.requires c.turn.new.count.made c.turn.ensures.counted

pub returns-in-Err-turn-clause-bound : goal.returns-in-Err-turn-clause-bound
returns-in-Err-turn-clause-bound c = count-bound c.each.invariant.read.count c.turn.new.count.made c.turn.ensures.counted

pub returns-clause-no_fewer : goal.returns-clause-no_fewer
returns-clause-no_fewer c = no_fewer_since c.each.invariant.read.count c.turn.new.count.made c.turn.ensures.counted

pub returns-in-Err-turn-clause-no_fewer : goal.returns-in-Err-turn-clause-no_fewer
returns-in-Err-turn-clause-no_fewer c = no_fewer_since c.each.invariant.read.count c.turn.new.count.made c.turn.ensures.counted

pub returns-clause-told : goal.returns-clause-told
returns-clause-told c = count-told c.each.invariant.read.count c.turn.new.count.made c.turn.ensures.counted _ (search rules)

pub returns-clause-steps : goal.returns-clause-steps
returns-clause-steps c = steps-end c.each.invariant.steps c.in-Ok-false.ensures.steps _ (one_since c.each.invariant.read.count c.turn.new.count.made c.turn.ensures.counted)

pub returns-in-Err-turn-clause-steps : goal.returns-in-Err-turn-clause-steps
returns-in-Err-turn-clause-steps c =
    unless_stopped c.in-Err-turn.e _ _ (λ t. steps-end c.each.invariant.steps t _ (one_since c.each.invariant.read.count c.turn.new.count.made c.turn.ensures.counted)) c.in-Err-turn.ensures.steps

pub returns-clause-most_steps : goal.returns-clause-most_steps
returns-clause-most_steps c =
    takes_most c.args.set.now c.args.line.now (finds_in_order dialect c.dialect_finds_in_text.ensures c.args.line.now c.utf8.line) c.args.state.now _ _ _
    (steps-end c.each.invariant.steps c.in-Ok-false.ensures.steps _ (one_since c.each.invariant.read.count c.turn.new.count.made c.turn.ensures.counted))
    (few_since c.each.invariant.read.count c.turn.new.count.made c.turn.ensures.counted)

pub returns-in-Err-turn-clause-most_steps : goal.returns-in-Err-turn-clause-most_steps
returns-in-Err-turn-clause-most_steps c =
    unless_stopped c.in-Err-turn.e _ _
    (λ t.
    takes_most c.args.set.now c.args.line.now (finds_in_order dialect c.dialect_finds_in_text.ensures c.args.line.now c.utf8.line) c.args.state.now _ _ _
    (steps-end c.each.invariant.steps t _ (one_since c.each.invariant.read.count c.turn.new.count.made c.turn.ensures.counted))
    (few_since c.each.invariant.read.count c.turn.new.count.made c.turn.ensures.counted))
    c.in-Err-turn.ensures.steps

pub returns-clause-advances : goal.returns-clause-advances
returns-clause-advances c = advances-on _ _ _ c.each.invariant.advances c.turn.ensures.advances

pub returns-in-Err-turn-clause-advances : goal.returns-in-Err-turn-clause-advances
returns-in-Err-turn-clause-advances c = advances-on _ _ _ c.each.invariant.advances c.turn.ensures.advances

pub returns-clause-few_turns : goal.returns-clause-few_turns
returns-clause-few_turns c =
    few_more c.each.invariant.read.count c.args.limits.now.turns (rw c.in_default.is at c.limit_at.ensures.turns) c.limit_at.ensures.small c.turn.new.count.made c.turn.ensures.counted

pub returns-in-Err-turn-clause-few_turns : goal.returns-in-Err-turn-clause-few_turns
returns-in-Err-turn-clause-few_turns c =
    few_more c.each.invariant.read.count c.args.limits.now.turns (rw c.in_default.is at c.limit_at.ensures.turns) c.limit_at.ensures.small c.turn.new.count.made c.turn.ensures.counted

pub returns-in-Err-turn-clause-reached : goal.returns-in-Err-turn-clause-reached
returns-in-Err-turn-clause-reached c = stops-here c.args.limits.now _ c.turn.new.regions.steps c.in-Err-turn.e c.in-Err-turn.ensures.stops

pub returns-clause-few_levels : goal.returns-clause-few_levels
returns-clause-few_levels c =
    let t = rw c.in-Ok-false.field-0-test at c.in-Ok-false.ensures.turns in
    levels-end c.args.set.now c.args.line.now c.args.state.now c.args.limits.now.levels c.each.p t.bytes (record { levels = c.turn.new.p.levels; cuts = c.turn.new.p.cuts; first_line = false }) t.ends (rw c.in_default.is at c.limit_at.ensures.levels) c.each.invariant.levels

pub returns-in-Some-clause-refused : goal.returns-in-Some-clause-refused
returns-in-Some-clause-refused c = (
  c.requires,
  stands-there c.args.set.now c.args.line.now c.args.state.now c.args.limits.now c.each.p c.each.turns _ c.in-Some.limit (c.each.invariant.steps.reached c.each.p here) c.in-Some.ensures.some,
)

pub returns-in-Some-clause-no_more : goal.returns-in-Some-clause-no_more
returns-in-Some-clause-no_more c = count-passed c.each.invariant.read.count c.requires

pub returns-in-Some-clause-bound : goal.returns-in-Some-clause-bound
returns-in-Some-clause-bound c = let b = count-bound c.each.invariant.read.count (c.each.count.made + 1) refl in omega (arith, b)

pub returns-in-Some-clause-no_fewer : goal.returns-in-Some-clause-no_fewer
returns-in-Some-clause-no_fewer c = omega (arith, c.each.invariant.read.count.counted)

pub returns-in-Some-clause-reached : goal.returns-in-Some-clause-reached
returns-in-Some-clause-reached c = stands-here c.each.invariant.read.count c.args.limits.now c.each.regions.steps _ c.in-Some.limit c.each.invariant.few c.in-Some.ensures.some

pub returns-clause-few_operations : goal.returns-clause-few_operations
returns-clause-few_operations c =
    let t = rw c.in-Ok-false.field-0-test at c.in-Ok-false.ensures.turns in
    let n : c.len.result ≡ length c.each.ops.items = search rules in
    rw t.unchanged (rw (c.in_default.is, n) at c.limit_at.ensures.operations)
