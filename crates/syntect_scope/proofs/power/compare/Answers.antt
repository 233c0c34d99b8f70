use Rattle.std.proofs.Common.{◌≡◌, ◌+◌, ◌-◌, ◌∙◌, ℕ, drop, ap, sym, arith}
use Rattle.syntect_scope.proofs.DigitLaws.{higher_cmp}
use Rattle.syntect_scope.proofs.power.compare.Goals as goal

pub returns-then-a-i : goal.returns-then-a-i
returns-then-a-i c =
    let z : c.loop-i.i ≡ c.loop-i.i - 1 + 1 = omega (arith, c.loop-i-test.true) in
    let rest : drop (c.loop-i.i - 1 + 1) c.args.a.now ≡ drop (c.loop-i.i - 1 + 1) c.args.b.now =
    ap (λ (n : ℕ). drop n c.args.a.now) (sym z) ∙ c.loop-i.invariant.same ∙ ap (λ (n : ℕ). drop n c.args.b.now) z in
    c.cmp.ensures ∙ higher_cmp c.args.a.now c.args.b.now (c.loop-i.i - 1) c.requires.a c.requires.b c.requires.len (omega (arith, c.loop-i-test.true, c.loop-i.invariant.within)) rest c.if-a-i.true
