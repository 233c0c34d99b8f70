use Rattle.std.proofs.Common.{◌-◌, arith, subst}
use Rattle.syntect_documents.specs.syntect_parsing.States.{standing, turns_made, steps_made}
use Rattle.syntect_documents.specs.syntect_parsing.Within.{ReachesLimit, RefusesWithinOrMemory}
use Rattle.syntect_documents.specs.syntect_parsing.declared.within.ReadWithinError.{ReadWithinError}
use Rattle.syntect_documents.specs.syntect_reading_choice.Engine.{dialect}
use Rattle.syntect_assets.proofs.syntect_easy_proofs.PlainLaws.{reached_from}
use Rattle.syntect_documents.proofs.classed.read_line.Goals as goal

pub returns-in-Ok-clause-order : goal.returns-in-Ok-clause-order
returns-in-Ok-clause-order c = c.in-Ok.ensures.accepted.means.order

pub returns-in-Err-LimitReached-clause-read : goal.returns-in-Err-LimitReached-clause-read
returns-in-Err-LimitReached-clause-read c =
    let old = c.args.state.now in
    let new = c.parse_line_within.new.self in (
      c.in-Err-LimitReached.ensures.err,
      c.new.ensures.items,
      reached_from c.args.limits.now c.args.set.now c.args.line.now (standing old) c.in-Err-LimitReached.limit (turns_made old) (turns_made new) (steps_made new - steps_made old) c.in-Err-LimitReached.ensures.no_more
          (subst (λ (w : ReadWithinError). ReachesLimit c.args.limits.now (turns_made new - turns_made old) (steps_made new - steps_made old) w) c.in-Err-LimitReached.field-0-is c.in-Err-LimitReached.ensures.reached)
          (subst (λ (w : ReadWithinError). RefusesWithinOrMemory dialect c.args.set.now c.args.line.now (standing old) w) c.in-Err-LimitReached.field-0-is c.in-Err-LimitReached.ensures.refused).1,
    )

pub returns-in-Err-LimitReached-clause-order : goal.returns-in-Err-LimitReached-clause-order
returns-in-Err-LimitReached-clause-order c = rw c.new.ensures.items (omega arith)
