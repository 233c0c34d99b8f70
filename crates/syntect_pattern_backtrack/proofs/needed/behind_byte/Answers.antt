use Rattle.std.proofs.Common.{◌≡◌, ◌≤◌, ◌<◌, ◌+◌, ◌∙◌, inl, inr, List, ℕ, arith, ap, drop, false, length, length-drop, sym}
use Rattle.std.proofs.lemmas.Bool.{cases_lt}
use Rattle.syntect_pattern_backtrack.specs.syntect_pattern_table.Starts.{is_in, start_at}
use Rattle.syntect_pattern_backtrack.proofs.NeedLaws.{absent-behind, absent-up_to}
use Rattle.syntect_pattern_backtrack.proofs.needed.behind_byte.Goals as goal

pub returns-in_default : goal.returns-in_default
returns-in_default c = λ low k p.
    let s = c.args.text.now in
    let from = c.loop-found.from in
    let rest : c.split_at.result.1.now ≡ drop from s = c.split_at.ensures.back ∙ ap (λ (t : List ℕ). drop from t) c.as_bytes.ensures.value in
    elim (cases_lt k from) [
      | inl l ↦ c.loop-found.invariant.absent low k p l
      | inr g ↦ absent-behind s c.split_at.result.1.now c.args.byte from rest low (is_in c.args.next.now) c.memchr.result c.in_default.is c.memchr.ensures k g
    ]

pub loop-found-preserved : goal.loop-found-preserved
loop-found-preserved c =
    let s = c.args.text.now in
    let from = c.loop-found.from in
    let found = c.in-Some.found in
    let rest : c.split_at.result.1.now ≡ drop from s = c.split_at.ensures.back ∙ ap (λ (t : List ℕ). drop from t) c.as_bytes.ensures.value in
    let inside : found < length c.split_at.result.1.now = c.in-Some.ensures.0.high in
    let within : from + (found + 1) ≤ length s = omega (arith, inside, ap length rest, length-drop from s) in
    let behind : is_in c.args.next.now (start_at s (from + (found + 1))) ≡ false = sym (c.is_in.ensures ∙ ap (is_in c.args.next.now) c.start_at.ensures.value) ∙ c.if-is_in.false in
    record {
      within = within;
      absent = λ low k p q. elim (cases_lt k from) [
        | inl l ↦ c.loop-found.invariant.absent low k p l
        | inr g ↦ absent-up_to s c.split_at.result.1.now c.args.byte from rest low (is_in c.args.next.now) found c.in-Some.ensures behind k g q
      ];
    }
