use Rattle.std.proofs.Common.{◌+◌, ◌≤◌, [], ap, arith, length}
use Rattle.syntect_buffer.specs.Fresh.{Buffer}
use Rattle.syntect_buffer.proofs.FreshLaws.{kept_after, limits_after, number_after, whole_after}
use Rattle.syntect_buffer.proofs.buffer.LineBuffer.remove_line.Goals as goal

pub invariant_of-self : goal.invariant_of-self
invariant_of-self c =
    let within : c.args.place ≤ length c.self.inside.kept.readings = omega (arith, ap (λ (b : Buffer). length b.lines) c.self.view_is, c.self.invariant.count) in
    let behind : (c.args.place + 1) ≤ length c.self.inside.kept.readings = omega (arith, ap (λ (b : Buffer). length b.lines) c.self.view_is, c.self.invariant.count) in
    kept_after c.self.inside.syntax_set.now c.self.inside.theme.now c.self.inside.syntax.now c.self.inside.kept c.remove_at.new.kept c.args.place (c.args.place + 1) []
    c.remove_at.result within behind c.self.invariant c.remove_at.ensures.ok c.remove_at.ensures.err

pub returns-clause-number : goal.returns-clause-number
returns-clause-number c =
    let within : c.args.place ≤ length c.self.inside.kept.readings = omega (arith, ap (λ (b : Buffer). length b.lines) c.self.view_is, c.self.invariant.count) in
    let behind : (c.args.place + 1) ≤ length c.self.inside.kept.readings = omega (arith, ap (λ (b : Buffer). length b.lines) c.self.view_is, c.self.invariant.count) in
    rw (← c.self.view_is) (number_after c.self.inside.syntax_set.now c.self.inside.theme.now c.self.inside.syntax.now c.self.inside.kept c.remove_at.new.kept c.args.place (c.args.place + 1) []
    c.remove_at.result c.args.place within behind (omega arith) c.self.invariant c.remove_at.ensures.ok)

pub returns-clause-limits : goal.returns-clause-limits
returns-clause-limits c =
    rw (← c.self.view_is) (limits_after c.self.inside.syntax_set.now c.self.inside.theme.now c.self.inside.syntax.now c.self.inside.kept c.remove_at.new.kept c.args.place (c.args.place + 1) []
    c.remove_at.result c.remove_at.ensures.ok c.remove_at.ensures.err)

pub returns-clause-all : goal.returns-clause-all
returns-clause-all c =
    let within : c.args.place ≤ length c.self.inside.kept.readings = omega (arith, ap (λ (b : Buffer). length b.lines) c.self.view_is, c.self.invariant.count) in
    let behind : (c.args.place + 1) ≤ length c.self.inside.kept.readings = omega (arith, ap (λ (b : Buffer). length b.lines) c.self.view_is, c.self.invariant.count) in
    rw (← c.self.view_is) (whole_after c.self.inside.syntax_set.now c.self.inside.theme.now c.self.inside.syntax.now c.self.inside.kept c.remove_at.new.kept c.args.place (c.args.place + 1) []
    c.remove_at.result within behind c.self.invariant c.remove_at.ensures.ok c.remove_at.ensures.err)
