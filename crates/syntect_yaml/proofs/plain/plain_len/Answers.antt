use Rattle.std.proofs.Common.{◌≡◌, ◌<◌, true, length, get_or, sym, ap, ◌∙◌, arith}
use Rattle.std.proofs.lemmas.Grind.{common_steps}
use Rattle.syntect_yaml.proofs.PlainLaws.{from_end, plain_ends, plain_white, plain_other, stops_ascii, plain_none, end_boundary, kept_ascii}
use Rattle.syntect_yaml.specs.Lines.{is_white}
use Rattle.syntect_yaml.proofs.plain.plain_len.Goals as goal
use Rattle.syntect_yaml.proofs.plain.plain_len.Goals.{then-not-is_white, else-not-is_white}

pub returns-then-ends_plain-clause-len : goal.returns-then-ends_plain-clause-len
returns-then-ends_plain-clause-len c =
    let l = c.bytes in
    let within : l.at < length c.args.text.now = omega (arith, c.as_bytes-bytes.ensures.len) in
    let ends = plain_ends c.args.flow l.spaced c.args.text.now l.at within (grind (arith, common_steps)) in
    sym (l.invariant.2 ∙ ap (from_end l.end l.at) ends)

pub returns-then-ends_plain-clause-boundary : goal.returns-then-ends_plain-clause-boundary
returns-then-ends_plain-clause-boundary c =
    let l = c.bytes in
    let within : l.at < length c.args.text.now = omega (arith, c.as_bytes-bytes.ensures.len) in
    let ascii = stops_ascii c.args.flow l.spaced c.args.text.now l.at within (grind (arith, common_steps)) in
    end_boundary c.args.text.now l.end l.at l.invariant.0 l.invariant.1 (omega arith) (λ h. ascii)

pub bytes-preserved : goal.bytes-preserved
bytes-preserved c =
    let l = c.bytes in
    let s = c.args.text.now in
    let within : l.at < length s = omega (arith, c.as_bytes-bytes.ensures.len) in
    elim c.if-not-is_white.branch [
      | then-not-is_white w ↦
          let step = plain_other l.end c.args.flow l.spaced s l.at within (grind (arith, common_steps)) (grind (arith, common_steps)) in
          (omega (arith, w.end-is), λ h. absurd (omega (arith, w.end-is)), l.invariant.2 ∙ step ∙ rw (w.end-is, c.as_bytes-bytes.ensures.value))
      | else-not-is_white w ↦
          let white : is_white (get_or s l.at 0) ≡ true = grind (arith, common_steps) in
          let step = plain_white l.end c.args.flow l.spaced s l.at within (grind (arith, common_steps)) white in
          (omega (arith, w.end-is, l.invariant.0), λ h. rw w.end-is (kept_ascii s l.end l.at l.invariant.0 l.invariant.1 white), l.invariant.2 ∙ step ∙ rw (w.end-is, c.as_bytes-bytes.ensures.value))
    ]

pub returns-clause-len : goal.returns-clause-len
returns-clause-len c =
    let l = c.bytes in
    let over : length c.args.text.now ≡ l.at = omega (arith, c.as_bytes-bytes.ensures.len) in
    sym (l.invariant.2 ∙ ap (from_end l.end l.at) (plain_none c.args.flow l.spaced c.args.text.now l.at over))
