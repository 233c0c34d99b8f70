use Rattle.std.proofs.Common.{sym, ◌∙◌}
use Rattle.syntect_grammar_limits.proofs.FolderLaws.{passes_over, adds_metadata, no_memory_at}
use Rattle.syntect_grammar_limits.proofs.folders.add_file.Goals as goal

pub returns-then-not-is_metadata-clause-ok : goal.returns-then-not-is_metadata-clause-ok
returns-then-not-is_metadata-clause-ok g c =
    passes_over (g.T.Tree.told c.args.tree.now) c.args.loading.now.limits c.args.loading.now.lines_include_newline c.args.path.now c.args.room.now c.args.repository.now c.args.builder.now
    (sym c.is_grammar.ensures ∙ c.if-is_grammar.false) (sym c.is_metadata.ensures ∙ c.if-not-is_metadata.true)

pub returns-in-Ok-clause-ok : goal.returns-in-Ok-clause-ok
returns-in-Ok-clause-ok g c =
    adds_metadata (g.T.Tree.told c.args.tree.now) c.args.loading.now.limits c.args.loading.now.lines_include_newline c.args.path.now c.args.room.now c.args.repository.now c.args.builder.now c.add_metadata.new.self
    (sym c.is_metadata.ensures ∙ c.if-not-is_metadata.false) c.in-Ok.ensures.ok

pub returns-in-Err-clause-refusal : goal.returns-in-Err-clause-refusal
returns-in-Err-clause-refusal g c =
    no_memory_at (g.T.Tree.told c.args.tree.now) c.args.loading.now.limits c.args.loading.now.lines_include_newline c.args.path.now c.args.room.now c.args.repository.now c.in-Err.e
    (sym c.is_metadata.ensures ∙ c.if-not-is_metadata.false) c.in-Err.ensures.memory
