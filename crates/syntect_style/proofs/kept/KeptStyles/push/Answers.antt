use Rattle.std.proofs.Common.{◌≡◌, ◌++◌, ◌∷◌, [], take, ap, ◌∙◌, None}
use Rattle.syntect_style.specs.Kept.{scopes_of}
use Rattle.syntect_style.specs.declared.kept.Kept.{Kept}
use Rattle.syntect_style.proofs.KeptLaws.{taken_again, is_there, put_on, put_known, front_length}
use Rattle.syntect_style.proofs.kept.KeptStyles.push.Goals as goal

pub returns-then-is_at-clause-ok : goal.returns-then-is_at-clause-ok
returns-then-is_at-clause-ok c = taken_again (scopes_of c.args.self.now) c.args.place c.args.scope (c.is_at.ensures c.if-is_at.true)

pub returns-then-is_at-clause-len : goal.returns-then-is_at-clause-len
returns-then-is_at-clause-len c = is_there c.args.self.now c.args.place c.args.scope (c.is_at.ensures c.if-is_at.true)

pub returns-clause-ok : goal.returns-clause-ok
returns-clause-ok c =
    let k : Kept = record { scope = c.args.scope; single = c.raise.new.leaders; base = c.base_with-base.result; others = None; style = None } in
    let e : c.push.new.self.items ≡ take c.args.place c.args.self.now ++ k ∷ [] = c.in_ok-push.ensures.items ∙ ap (λ xs. xs ++ k ∷ []) (c.truncate.ensures.items ∙ ap (take c.args.place) c.self.view_is) in
    rw e (put_on c.args.self.now k c.args.place c.requires)

pub returns-clause-known : goal.returns-clause-known
returns-clause-known c = λ h.
    let k : Kept = record { scope = c.args.scope; single = c.raise.new.leaders; base = c.base_with-base.result; others = None; style = None } in
    let e : c.push.new.self.items ≡ take c.args.place c.args.self.now ++ k ∷ [] = c.in_ok-push.ensures.items ∙ ap (λ xs. xs ++ k ∷ []) (c.truncate.ensures.items ∙ ap (take c.args.place) c.self.view_is) in
    rw e (put_known c.args.highlighter.now c.args.self.now k c.args.place h (record {
      single = c.raise.ensures (take c.args.place (scopes_of c.args.self.now)) (front_length c.args.self.now c.args.place c.requires) (c.below-single.ensures h);
      style = tt;
      others = tt;
      base = c.base_with-base.ensures h;
    }))
