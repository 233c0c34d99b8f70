use Rattle.std.proofs.Common.{◌++◌, ◌<◌, length, take, sym, ap, ◌∙◌, append-nil, get_or, subst}
use Rattle.syntect_style.specs.Cut.{plain}
use Rattle.syntect_style.proofs.CutLaws.{take_plain, drop_plain, stop_whole, stop_others}
use Rattle.syntect_style.proofs.cut.whole_pieces.Goals as goal

pub returns-then-len-left-clause-whole : goal.returns-then-len-left-clause-whole
returns-then-len-left-clause-whole g c =
    let v = c.args.v.now in
    let i = c.loop-i.i in
    let d = c.index-v-i.result in
    let long : c.loop-i.left < length (get_or v i d).1.now = subst (λ p. c.loop-i.left < length p.1.now) c.index-v-i.is c.if-len-left.true in
    take_plain i v ∙ sym (append-nil (plain (take i v)))
    ∙ ap (λ l. plain (take i v) ++ l) (sym (stop_whole v i c.loop-i.left d c.loop-i-test.true long))
    ∙ c.loop-i.invariant.whole

pub returns-then-len-left-clause-others : goal.returns-then-len-left-clause-others
returns-then-len-left-clause-others g c =
    let v = c.args.v.now in
    let i = c.loop-i.i in
    let d = c.index-v-i.result in
    let long : c.loop-i.left < length (get_or v i d).1.now = subst (λ p. c.loop-i.left < length p.1.now) c.index-v-i.is c.if-len-left.true in
    drop_plain i v ∙ sym (stop_others v i c.loop-i.left d c.loop-i-test.true long) ∙ c.loop-i.invariant.others
