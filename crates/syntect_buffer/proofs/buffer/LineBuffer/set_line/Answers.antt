use Rattle.std.proofs.Common.{◌+◌, ◌<◌, ◌≤◌, ◌∷◌, [], ap, sym, ◌∙◌, arith, length, string_bytes}
use Rattle.std.proofs.lemmas.Result.{on_ok_weaker}
use Rattle.syntect_buffer.proofs.EditLaws.{set_parts}
use Rattle.syntect_buffer.specs.Fresh.{Buffer}
use Rattle.syntect_buffer.specs.Kept.{lines_in}
use Rattle.syntect_buffer.proofs.FreshLaws.{kept_after, limits_after, number_after, whole_after, lines_after}
use Rattle.syntect_buffer.proofs.buffer.LineBuffer.set_line.Goals as goal

pub invariant_of-self : goal.invariant_of-self
invariant_of-self c =
    let within : c.args.place ≤ length c.self.inside.kept.readings = omega (arith, ap (λ (b : Buffer). length b.lines) c.self.view_is, c.self.invariant.count) in
    let behind : (c.args.place + 1) ≤ length c.self.inside.kept.readings = omega (arith, ap (λ (b : Buffer). length b.lines) c.self.view_is, c.self.invariant.count) in
    kept_after c.self.inside.syntax_set.now c.self.inside.theme.now c.self.inside.syntax.now c.self.inside.kept c.set_at.new.kept c.args.place (c.args.place + 1) (string_bytes c.args.line ∷ [])
    c.set_at.result within behind c.self.invariant c.set_at.ensures.ok c.set_at.ensures.err

pub returns-clause-number : goal.returns-clause-number
returns-clause-number c =
    let within : c.args.place ≤ length c.self.inside.kept.readings = omega (arith, ap (λ (b : Buffer). length b.lines) c.self.view_is, c.self.invariant.count) in
    let behind : (c.args.place + 1) ≤ length c.self.inside.kept.readings = omega (arith, ap (λ (b : Buffer). length b.lines) c.self.view_is, c.self.invariant.count) in
    rw (← c.self.view_is) (number_after c.self.inside.syntax_set.now c.self.inside.theme.now c.self.inside.syntax.now c.self.inside.kept c.set_at.new.kept c.args.place (c.args.place + 1) (string_bytes c.args.line ∷ [])
    c.set_at.result (c.args.place + 1) within behind (omega arith) c.self.invariant c.set_at.ensures.ok)

pub returns-clause-lines : goal.returns-clause-lines
returns-clause-lines c =
    let lines = lines_in c.self.inside.kept in
    let lt : c.args.place < length lines = omega (arith, ap (λ (b : Buffer). length b.lines) c.self.view_is) in
    rw (← c.self.view_is) (on_ok_weaker c.set_at.result (λ e. e ∙ sym (set_parts lines c.args.place (string_bytes c.args.line) lt))
    (lines_after c.self.inside.syntax_set.now c.self.inside.theme.now c.self.inside.syntax.now c.self.inside.kept c.set_at.new.kept c.args.place (c.args.place + 1) (string_bytes c.args.line ∷ []) c.set_at.result c.set_at.ensures.ok))

pub returns-clause-limits : goal.returns-clause-limits
returns-clause-limits c =
    rw (← c.self.view_is) (limits_after c.self.inside.syntax_set.now c.self.inside.theme.now c.self.inside.syntax.now c.self.inside.kept c.set_at.new.kept c.args.place (c.args.place + 1) (string_bytes c.args.line ∷ [])
    c.set_at.result c.set_at.ensures.ok c.set_at.ensures.err)

pub returns-clause-all : goal.returns-clause-all
returns-clause-all c =
    let within : c.args.place ≤ length c.self.inside.kept.readings = omega (arith, ap (λ (b : Buffer). length b.lines) c.self.view_is, c.self.invariant.count) in
    let behind : (c.args.place + 1) ≤ length c.self.inside.kept.readings = omega (arith, ap (λ (b : Buffer). length b.lines) c.self.view_is, c.self.invariant.count) in
    rw (← c.self.view_is) (whole_after c.self.inside.syntax_set.now c.self.inside.theme.now c.self.inside.syntax.now c.self.inside.kept c.set_at.new.kept c.args.place (c.args.place + 1) (string_bytes c.args.line ∷ [])
    c.set_at.result within behind c.self.invariant c.set_at.ensures.ok c.set_at.ensures.err)
