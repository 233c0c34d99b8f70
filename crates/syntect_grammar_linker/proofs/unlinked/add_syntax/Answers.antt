use Rattle.std.proofs.Common.{◌∙◌, ap, map}
use Rattle.std.specs.Prelude.{string_bytes}
use Rattle.std.specs.List.{flat_map}
use Rattle.syntect_grammar_linker.specs.Unlinked.{pushed_by, unlinked_among, with_texts}
use Rattle.syntect_grammar_contexts.specs.declared.context.Context.{Context}
use Rattle.syntect_grammar_linker.proofs.UnlinkedLaws.{more_unlinked}
use Rattle.syntect_grammar_linker.proofs.unlinked.add_syntax.Goals as goal

pub loop-context-preserved : goal.loop-context-preserved
loop-context-preserved c =
    more_unlinked c.args.repository.now c.args.syntax.now (λ (x : Context). flat_map pushed_by x.patterns) (map string_bytes c.loop-context.out.keys) _ c.as_slice-context-items.result.now c.loop-context.context-index c.context-item.result c.loop-context-test.true c.context-item.is
    (c.in_ok-add_patterns.ensures ∙ ap (λ ps. with_texts (map string_bytes c.loop-context.out.keys) (unlinked_among c.args.repository.now c.args.syntax.now (flat_map pushed_by ps))) c.as_slice.ensures)
    ∙ c.loop-context.invariant
