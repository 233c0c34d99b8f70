use Rattle.std.proofs.Common.{◌≢◌, ℕ, List, reverse, refl, subst}
use Rattle.std.specs.Path.{path_bytes}
use Rattle.syntect_base.specs.Ahead.{Ahead}
use Rattle.syntect_base.specs.Walks.{Walks, Unlisted}
use Rattle.syntect_base.specs.declared.loading.LoadingError.TheVariants.{Memory}
use Rattle.syntect_base.proofs.WalkLaws.{begins, none_found, not_begun}
use Rattle.syntect_base.proofs.utils.Walk.new.Goals as goal

pub returns-in-Ok-clause-ok : goal.returns-in-Ok-clause-ok
returns-in-Ok-clause-ok g c =
    let Told = g.T.Tree.told c.args.tree.now in
    let ahead : Ahead = record { sought = c.args.sought; paths = reverse c.enter.new.ahead; left = 18446744073709551615 } in
    none_found Told c.args.sought (path_bytes c.args.folder) ahead refl refl (λ rest end v.
    subst (λ (p : List ℕ). Walks Told c.args.sought p rest end) c.as_str.ensures
    (begins Told c.args.sought c.as_str.result.now c.in-Ok.ensures.ok.0 c.new-ahead.result c.enter.new.ahead c.new-ahead.ensures c.in-Ok.ensures.ok.1 c.in-Ok.ensures.ok.2 rest end v))

pub returns-in-Err-clause-err : goal.returns-in-Err-clause-err
returns-in-Err-clause-err g c =
    let Told = g.T.Tree.told c.args.tree.now in
    not_begun Told c.args.sought (path_bytes c.args.folder) c.in-Err.e c.in-Err.ensures.err
    (subst (λ (p : List ℕ). c.in-Err.e ≢ Memory → Unlisted Told c.args.sought p) c.as_str.ensures c.in-Err.ensures.unlisted)
