use Rattle.std.proofs.Common.{[], ◌∷◌, refl, subst}
use Rattle.syntect_base.specs.Trees.{stands}
use Rattle.syntect_base.specs.Walks.{takes, passes_over, breaks_at, breaks_in}
use Rattle.syntect_base.specs.declared.tree.Kind.{Kind}
use Rattle.syntect_base.specs.declared.tree.Kind.TheVariants.{Folder}
use Rattle.syntect_base.proofs.WalkLaws.{after_folder}
use Rattle.syntect_base.proofs.utils.visit.Goals as goal

pub returns-in-Ok-clause-ok : goal.returns-in-Ok-clause-ok
returns-in-Ok-clause-ok g c =
    let Told = g.T.Tree.told c.args.tree.now in
    after_folder Told c.args.sought c.args.path.now c.in-Ok.ensures.ok.0 c.args.ahead.now c.enter.new.ahead
    (subst (λ (k : Kind). Told (stands c.args.path.now k)) c.in-Ok-Folder.field-0-is c.in-Ok-Folder.ensures.ok) c.in-Ok.ensures.ok.1 c.in-Ok.ensures.ok.2

pub returns-in-Err-enter-clause-breaks : goal.returns-in-Err-enter-clause-breaks
returns-in-Err-enter-clause-breaks g c = λ other.
    let Told = g.T.Tree.told c.args.tree.now in
    ((c.args.path.now, Folder) ∷ [], refl, breaks_in (subst (λ (k : Kind). Told (stands c.args.path.now k)) c.in-Ok-Folder.field-0-is c.in-Ok-Folder.ensures.ok) (c.in-Err-enter.ensures.unlisted other))

pub returns-in-Ok-File-clause-ok : goal.returns-in-Ok-File-clause-ok
returns-in-Ok-File-clause-ok g c = λ rest end v.
    let Told = g.T.Tree.told c.args.tree.now in
    takes (subst (λ (k : Kind). Told (stands c.args.path.now k)) c.in-Ok-File.field-0-is c.in-Ok-File.ensures.ok) v

pub returns-in-Ok-Other-clause-ok : goal.returns-in-Ok-Other-clause-ok
returns-in-Ok-Other-clause-ok g c = λ rest end v.
    let Told = g.T.Tree.told c.args.tree.now in
    passes_over (subst (λ (k : Kind). Told (stands c.args.path.now k)) c.in-Ok-Other.field-0-is c.in-Ok-Other.ensures.ok) v

pub returns-in-Err-clause-breaks : goal.returns-in-Err-clause-breaks
returns-in-Err-clause-breaks g c = λ other. ([], refl, breaks_at {e = c.in-Err.e} c.in-Err.ensures.err (λ k. other (c.walk_fault.ensures.memory k)))
