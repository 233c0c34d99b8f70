use Rattle.std.proofs.Common.{Option, subst}
use Rattle.syntect_regex.specs.syntect_pattern_compile.Compiled.{Compiles}
use Rattle.syntect_regex.specs.syntect_pattern_table.declared.program.Program.{Program}
use Rattle.syntect_regex.proofs.BeginLaws.{lines-found}
use Rattle.syntect_regex.proofs.outline.lines_of.Goals as goal

pub returns-in-Some : goal.returns-in-Some
returns-in-Some c = λ pattern is yes.
    lines-found pattern c.in-Some.program
    (subst (λ (o : Option Program). Compiles pattern o) c.in-Some.is is)
    (c.is_at_lines.ensures yes)
