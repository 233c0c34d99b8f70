use Rattle.std.proofs.Common.{◌≡◌, ◌<◌, ℕ, Bool, List, length, get_or, true, min, sym, ap, ◌∙◌, arith}
use Rattle.syntect_pattern_table.proofs.BeginLaws.{cannot_begin-at}
use Rattle.syntect_pattern_table.proofs.program.Program.next_start_up_to.Goals as goal

pub returns-clause-skipped : goal.returns-clause-skipped
returns-clause-skipped c = λ k p q.
    let same : get_or c.as_bytes.result.now k 0 ≡ get_or c.args.text.now k 0 = ap (λ (s : List ℕ). get_or s k 0) c.as_bytes.ensures.value in
    let m : ℕ = min (get_or c.as_bytes.result.now k 0) 128 in
    let inside : k < length c.args.text.now = omega (arith, c.requires.within, c.next_flagged.ensures.inside) in
    cannot_begin-at c.args.text.now c.utf8.text c.args.self.now k m inside
    (ap (λ n. min n 128) same)
    (ap (λ (fs : List Bool). get_or fs m true) (sym c.as_slice.ensures) ∙ c.next_flagged.ensures.skipped k p q)
