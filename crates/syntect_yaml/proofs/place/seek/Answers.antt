use Rattle.std.proofs.Common.{◌≡◌, ◌-◌, ◌<◌, length, sym, ◌∙◌, rules, arith}
use Rattle.std.proofs.lemmas.Grind.{common_steps}
use Rattle.syntect_yaml.proofs.PlaceLaws.{seek_over, seek_stands, seek_end}
use Rattle.syntect_yaml.proofs.place.seek.Goals as goal

pub lines-preserved : goal.lines-preserved
lines-preserved c =
    let l = c.lines in
    let some : 0 < length l.rest.now = grind (arith, common_steps) in
    let less = c.in-Some.ensures.shorter some in (
      search rules,
      omega (arith, l.invariant.1),
      λ n h.
          let (m, room, same) = l.invariant.2 n h in
          (m - 1, omega arith, same ∙ seek_over m l.rest.now c.in-Some.after.now (omega arith) some (sym c.in-Some.ensures.value)),
    )

pub returns-in-None-clause-value : goal.returns-in-None-clause-value
returns-in-None-clause-value c n h =
    let l = c.lines in
    let some : 0 < length l.rest.now = grind (arith, common_steps) in
    let (m, room, same) = l.invariant.2 n h in
    c.indented.ensures.value ∙ sym (same ∙ seek_stands m l.rest.now (omega arith) some (sym c.in-None.ensures.value))

pub returns-clause-value : goal.returns-clause-value
returns-clause-value c n h =
    let l = c.lines in
    let none : length l.rest.now ≡ 0 = grind (arith, common_steps) in
    let (m, room, same) = l.invariant.2 n h in
    sym (same ∙ seek_end m l.rest.now (omega arith) none)
