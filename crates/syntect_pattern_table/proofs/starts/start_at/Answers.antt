use Rattle.std.proofs.Common.{arith, sym, ap, ◌∙◌, min, ℕ, List, get_or}
use Rattle.syntect_pattern_table.proofs.BeginLaws.{start-min, start-past}
use Rattle.syntect_pattern_table.proofs.starts.start_at.Goals as goal

pub returns-then-place-bytes-clause-value : goal.returns-then-place-bytes-clause-value
returns-then-place-bytes-clause-value c =
    start-min c.args.text.now c.args.place c.min.result (omega (arith, c.as_bytes-bytes.ensures.len))
    (c.min.ensures ∙ ap (λ (s : List ℕ). min (get_or s c.args.place 0) 128) c.as_bytes-bytes.ensures.value)

pub returns-else-place-bytes-clause-value : goal.returns-else-place-bytes-clause-value
returns-else-place-bytes-clause-value c = sym (start-past c.args.text.now c.args.place (omega (arith, c.as_bytes-bytes.ensures.len)))
