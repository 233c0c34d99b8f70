use Rattle.std.proofs.Common.{ap, ◌∙◌, cond, Bool, Some, rules}
use Rattle.std.specs.BTreeMap as tree
use Rattle.std.specs.Cmp.Lexicographic.{slice_cmp}
use Rattle.std.specs.Ordering.{nat_cmp}
use Rattle.std.proofs.lemmas.Map.Text.{is_eq-slice_cmp}
use Rattle.syntect_grammar_linker.specs.References.{has_scope}
use Rattle.syntect_grammar_linker.proofs.LinkLaws.{table_more}
use Rattle.syntect_grammar_linker.proofs.directory.last_by_scope.Goals as goal

pub loop-place-preserved : goal.loop-place-preserved
loop-place-preserved c = λ scope.
    table_more (has_scope scope) c.args.heads.now c.loop-place.place c.index-heads-place.result _ _ (search rules) c.index-heads-place.is (c.loop-place.invariant scope)
    (c.in_ok-insert.ensures.updates.0 scope
    ∙ ap (λ (b : Bool). cond b (Some c.loop-place.place) (tree.get (slice_cmp nat_cmp) c.loop-place.places scope)) (is_eq-slice_cmp c.index-heads-place.result.scope scope))
