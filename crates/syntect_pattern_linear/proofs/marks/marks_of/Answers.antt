use Rattle.std.proofs.Common.{◌++◌, ◌∷◌, [], List, Bool, ℕ, Option, map, take, ap, sym, ◌∙◌}
use Rattle.std.specs.Prelude.{is_some}
use Rattle.std.proofs.lemmas.List.{map_more}
use Rattle.syntect_pattern_linear.proofs.marks.marks_of.Goals as goal

pub loop-ends-preserved : goal.loop-ends-preserved
loop-ends-preserved c =
    let rows = c.args.rows.now in
    let i = c.loop-ends.ends-index in
    let more = map_more (λ (r : List (Option ℕ)). map (λ (e : Option ℕ). is_some e) r) rows i c.ends-item.result c.loop-ends-test.true in
    c.in_ok-push.ensures ∙ ap (λ (l : List (List Bool)). l ++ c.in_ok-marks_in.field-0 ∷ []) c.loop-ends.invariant
    ∙ ap (λ (r : List Bool). map (λ (r : List (Option ℕ)). map (λ (e : Option ℕ). is_some e) r) (take i rows) ++ r ∷ [])
    (c.in_ok-marks_in.ensures ∙ ap (map (λ (e : Option ℕ). is_some e)) (c.as_slice.ensures ∙ c.ends-item.is))
    ∙ sym more
