use Rattle.std.proofs.Common.{◌∙◌, ap, map}
use Rattle.std.specs.Prelude.{string_bytes}
use Rattle.syntect_grammar_linker.specs.Unlinked.{pushed_by, unlinked_among, with_texts}
use Rattle.syntect_grammar_linker.proofs.UnlinkedLaws.{more_unlinked}
use Rattle.syntect_grammar_linker.proofs.unlinked.add_patterns.Goals as goal

pub loop-pattern-preserved : goal.loop-pattern-preserved
loop-pattern-preserved c =
    more_unlinked c.args.repository.now c.args.syntax.now pushed_by (map string_bytes c.loop-pattern.out.keys) _ c.args.patterns.now c.loop-pattern.pattern-index c.pattern-item.result c.loop-pattern-test.true c.pattern-item.is
    (c.in_ok-add_references.ensures ∙ ap (λ rs. with_texts (map string_bytes c.loop-pattern.out.keys) (unlinked_among c.args.repository.now c.args.syntax.now rs)) c.pushed_by.ensures)
    ∙ c.loop-pattern.invariant
