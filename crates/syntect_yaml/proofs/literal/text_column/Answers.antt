use Rattle.std.proofs.Common.{◌≡◌, ◌-◌, ◌<◌, true, false, length, drop, sym, ap, ◌∙◌, rules, arith}
use Rattle.std.proofs.lemmas.Grind.{common_steps}
use Rattle.std.specs.List.{prefix_len}
use Rattle.syntect_yaml.specs.Lines.{is_space, ends_line}
use Rattle.syntect_yaml.specs.Literal.{text_column}
use Rattle.syntect_yaml.proofs.LiteralLaws.{column_here, column_over, column_none}
use Rattle.syntect_yaml.proofs.literal.text_column.Goals as goal

pub returns-then-not-ends_line : goal.returns-then-not-ends_line
returns-then-not-ends_line c n h =
    let l = c.lines in
    let some : 0 < length l.rest.now = grind (arith, common_steps) in
    let (m, room, same) = l.invariant.2 n h in
    let stops : ends_line (drop (prefix_len is_space l.rest.now) l.rest.now) ≡ false = grind (arith, common_steps) in
    sym (same ∙ column_here m l.rest.now (omega arith) some stops ∙ grind (arith, common_steps))

pub lines-preserved : goal.lines-preserved
lines-preserved c =
    let l = c.lines in
    let some : 0 < length l.rest.now = grind (arith, common_steps) in
    let less = c.after_line-rest.ensures.shorter some in
    let blank : ends_line (drop (prefix_len is_space l.rest.now) l.rest.now) ≡ true = grind (arith, common_steps) in (
      search rules,
      omega (arith, l.invariant.1),
      λ n h.
          let (m, room, same) = l.invariant.2 n h in
          (m - 1, omega arith, same ∙ column_over m l.rest.now (omega arith) some blank ∙ ap (text_column (m - 1)) (sym c.after_line-rest.ensures.rest)),
    )

pub returns : goal.returns
returns c n h =
    let l = c.lines in
    let none : length l.rest.now ≡ 0 = grind (arith, common_steps) in
    let (m, room, same) = l.invariant.2 n h in
    sym (same ∙ column_none m l.rest.now (omega arith) none)
