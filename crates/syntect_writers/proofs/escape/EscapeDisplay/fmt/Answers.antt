use Rattle.std.proofs.Common.{◌++◌, List, ℕ, rules, ap, sym, ◌∙◌, append_assoc}
use Rattle.std.proofs.Output.{has_written_append, has_written_of_eq}
use Rattle.std.specs.Fmt.{HasWritten}
use Rattle.syntect_writers.specs.Entities.{escaped}
use Rattle.syntect_writers.proofs.escape.EscapeDisplay.fmt.Goals as goal

pub loop-front-preserved : goal.loop-front-preserved
loop-front-preserved g c =
    let front = c.in-Some.front.now in
    let name = c.name_of.result.now in
    let back = escaped c.in-Some.back.now in (
      search rules,
      λ plain.
          let now = c.loop-front.invariant.1 plain in
          let one : HasWritten g.W.Write.write_str_gives c.args.f.now (now.0 ++ front) c.write_str.new.self = has_written_append _ _ _ _ _ _ now.1 (search rules) in (
            (now.0 ++ front) ++ name,
            has_written_append _ _ _ _ _ _ one (search rules),
            append_assoc (now.0 ++ front) name back
                ∙ append_assoc now.0 front (name ++ back)
                ∙ ap (λ (n : List ℕ). now.0 ++ (front ++ (n ++ back))) c.name_of.ensures
                ∙ ap (λ (t : List ℕ). now.0 ++ t) (sym c.in-Some.ensures.written)
                ∙ now.2,
          ),
    )

pub returns-clause-writes : goal.returns-clause-writes
returns-clause-writes g c =
    λ plain ok.
    let now = c.loop-front.invariant.1 plain in
    has_written_of_eq _ _ _ _ _ (ap (λ (t : List ℕ). now.0 ++ t) (sym c.in_default.ensures) ∙ now.2) (has_written_append _ _ _ _ _ _ now.1 (search (rules, ok)))
