use Rattle.std.proofs.Common.{◌≡◌, take, ap, ◌∙◌}
use Rattle.syntect_style.proofs.KeptLaws.{front_min, ok_then}
use Rattle.syntect_style.proofs.OtherLaws.{others_alike}
use Rattle.syntect_style.proofs.kept.KeptStyles.modifier.Goals as goal

pub returns-in-Some-clause-value : goal.returns-in-Some-clause-value
returns-in-Some-clause-value c = λ s h k.
    c.finished_small.ensures c.args.stack.now k.single
    (others_alike c.args.highlighter.now (take c.args.known.base c.args.stack.now) c.args.stack.now _ _ _ k.base.alike (rw s at (c.in-Some.ensures c.args.highlighter.now h)))

pub returns-clause-value : goal.returns-clause-value
returns-clause-value c =
    let e : c.split_at.result.0.now ≡ take c.args.known.base c.args.stack.now = c.split_at.ensures.front ∙ ap (λ n. take n c.args.stack.now) c.min.ensures ∙ front_min c.args.known.base c.args.stack.now in
    ok_then c.finished.result c.finished.ensures (λ m f s h k. f c.args.stack.now k.single (others_alike c.args.highlighter.now (take c.args.known.base c.args.stack.now) c.args.stack.now _ _ _ k.base.alike (rw e at c.in_ok-others.ensures)))
