use Rattle.std.proofs.Common.{◌-◌, Bool, true, sym, ap, ◌∙◌, rules, arith}
use Rattle.syntect_yaml.specs.Lines.{next}
use Rattle.syntect_yaml.specs.Text.{place_of}
use Rattle.syntect_yaml.specs.Yaml.{begin}
use Rattle.syntect_yaml.proofs.YamlLaws.{begin_lost, begin_directive, begin_start, begin_body, begin_nothing, directive_some}
use Rattle.syntect_yaml.proofs.read.begin.Goals as goal

pub returns-in_default-clause-value : goal.returns-in_default-clause-value
returns-in_default-clause-value c n h =
    let (m, room, same) = c.lines.invariant.2 n h in
    sym (same ∙ begin_lost m c.lines.directed c.lines.rest.now (omega arith) (sym (c.in_default.ensures.value _ (omega arith))))

pub lines-preserved : goal.lines-preserved
lines-preserved c =
    let l = c.lines in
    let within = c.in-Some.ensures.within in
    let less = c.after_line-rest.ensures.shorter (directive_some (place_of c.in-Some.spot) (sym c.in-Directive.ensures)) in (
      search rules,
      omega (arith, l.invariant.1),
      λ n h.
          let (m, room, same) = l.invariant.2 n h in (
            m - 1,
            omega arith,
            same ∙ begin_directive m l.directed l.rest.now (place_of c.in-Some.spot) (omega arith) (sym (c.in-Some.ensures.value _ (omega arith))) (sym c.in-Directive.ensures)
                ∙ ap (begin (m - 1) true) (sym c.after_line-rest.ensures.rest),
          ),
    )

pub returns-in-Start-clause-value : goal.returns-in-Start-clause-value
returns-in-Start-clause-value c n h =
    let (m, room, same) = c.lines.invariant.2 n h in
    c.next.ensures.value ∙ ap next c.after_line.ensures.rest
    ∙ sym (same ∙ begin_start m c.lines.directed c.lines.rest.now (place_of c.in-Some.spot) (omega arith) (sym (c.in-Some.ensures.value _ (omega arith))) (sym c.in-Start.ensures))

pub returns-then-directed-clause-value : goal.returns-then-directed-clause-value
returns-then-directed-clause-value c n h =
    let (m, room, same) = c.lines.invariant.2 n h in
    sym (same ∙ ap (λ (b : Bool). begin m b c.lines.rest.now) c.if-directed.true
    ∙ begin_nothing m c.lines.rest.now (place_of c.in-Some.spot) (omega arith) (sym (c.in-Some.ensures.value _ (omega arith))) (sym c.in-Body.ensures))

pub returns-in-Body-clause-value : goal.returns-in-Body-clause-value
returns-in-Body-clause-value c n h =
    let (m, room, same) = c.lines.invariant.2 n h in
    c.unmarked.ensures.value ∙ sym (same ∙ ap (λ (b : Bool). begin m b c.lines.rest.now) c.if-directed.false
    ∙ begin_body m c.lines.rest.now (place_of c.in-Some.spot) (omega arith) (sym (c.in-Some.ensures.value _ (omega arith))) (sym c.in-Body.ensures))
