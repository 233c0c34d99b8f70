use Rattle.std.proofs.Common.{rules, string_bytes, subst, sym}
use Rattle.syntect_regex.specs.syntect_pattern_compile.Compiled.{Compiles}
use Rattle.syntect_regex.proofs.regex.Regex.ready.Goals as goal

pub invariant_of-result : goal.invariant_of-result
invariant_of-result c =
    let compiled : Compiles (string_bytes c.args.text) c.in_ok-program.program = search rules in
    let made : Compiles (string_bytes c.args.text) c.in_ok-made.made.value = subst (Compiles (string_bytes c.args.text)) (sym c.in_ok-made.ensures.ok) compiled in
    rw c.in_ok-body.ensures.ok (rw c.new-parts.ensures.text (rw c.new-parts.ensures.kept (rw c.new-parts.ensures.outline
    (c.in_ok-outline.ensures (string_bytes c.args.text) compiled, made))))
