use Rattle.std.proofs.Common.{◌≡◌, ◌-◌, length, ap, get_or, ◌∙◌, arith}
use Rattle.syntect_style.specs.declared.kept.Kept.{Kept}
use Rattle.syntect_style.proofs.KeptLaws.{scopes_set, others_kept}
use Rattle.syntect_style.proofs.kept.KeptStyles.keep_others.Goals as goal

pub returns-then-count-len-clause-scopes : goal.returns-then-count-len-clause-scopes
returns-then-count-len-clause-scopes c =
    let k : Kept = c.index_mut.result.now in
    let n : length c.self.inside.entries.items ≡ length c.args.self.now = ap length c.self.view_is in
    let e : k ≡ get_or c.args.self.now (c.args.count - 1) k = c.index_mut.ensures.value ∙ ap (λ ks. get_or ks (c.args.count - 1) k) c.self.view_is in
    rw c.self.view_is (scopes_set c.args.self.now (c.args.count - 1) (record k { others = c.args.others }) k (omega (arith, c.if-count-gt0.true, c.if-count-len.true, c.len.ensures, c.self.inside.entries.ok.0, n)) (ap (λ (k : Kept). k.scope) e))

pub returns-then-count-len-clause-known : goal.returns-then-count-len-clause-known
returns-then-count-len-clause-known c = λ theme s h.
    let k : Kept = c.index_mut.result.now in
    let n : length c.self.inside.entries.items ≡ length c.args.self.now = ap length c.self.view_is in
    let e : k ≡ get_or c.args.self.now (c.args.count - 1) k = c.index_mut.ensures.value ∙ ap (λ ks. get_or ks (c.args.count - 1) k) c.self.view_is in
    rw c.self.view_is (others_kept theme c.args.self.now c.args.count k k c.args.others c.if-count-gt0.true (omega (arith, c.if-count-len.true, c.len.ensures, c.self.inside.entries.ok.0, n)) e s h)
