use Rattle.std.proofs.Common.{Option, subst}
use Rattle.syntect_regex.specs.syntect_pattern_compile.Compiled.{Compiles}
use Rattle.syntect_regex.specs.syntect_pattern_table.declared.program.Program.{Program}
use Rattle.syntect_regex.proofs.BeginLaws.{none-outside}
use Rattle.syntect_regex.proofs.outline.begins_of.Goals as goal

pub returns-in-Some-get : goal.returns-in-Some-get
returns-in-Some-get c = λ pattern is.
    none-outside pattern c.in-Some.program
    (subst (λ (o : Option Program). Compiles pattern o) c.in-Some.is is)
    c.in-Some-get.places c.in-Some-get.ensures
