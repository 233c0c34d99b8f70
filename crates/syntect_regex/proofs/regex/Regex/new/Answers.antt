use Rattle.std.proofs.Common.{rules, string_bytes}
use Rattle.syntect_regex.specs.syntect_pattern_compile.Compiled.{Compiles}
use Rattle.syntect_regex.proofs.regex.Regex.new.Goals as goal

pub invariant_of-result : goal.invariant_of-result
invariant_of-result c =
    let compiled : Compiles (string_bytes c.shrink_to_fit.new.self) c.in_ok-program.program = search rules in
    rw c.in_ok-body.ensures.ok (rw c.new-parts.ensures.text (rw c.new-parts.ensures.kept (rw c.new-parts.ensures.outline
    (c.in_ok-outline.ensures (string_bytes c.shrink_to_fit.new.self) compiled, tt))))
