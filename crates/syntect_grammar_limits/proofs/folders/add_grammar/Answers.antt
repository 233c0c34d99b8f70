use Rattle.syntect_grammar_limits.proofs.FolderLaws.{adds_one, no_memory_for}
use Rattle.syntect_grammar_limits.specs.FoldersWithin.{at_grammar}
use Rattle.syntect_grammar_limits.proofs.folders.add_grammar.Goals as goal

pub returns-in_default-clause-refusal : goal.returns-in_default-clause-refusal
returns-in_default-clause-refusal g c = no_memory_for (g.T.Tree.told c.args.tree.now) c.args.loading.now.limits c.args.loading.now.lines_include_newline c.args.path.now c.args.room.now c.args.repository.now c.requires

pub returns-in-Ok-add_loaded-clause-ok : goal.returns-in-Ok-add_loaded-clause-ok
returns-in-Ok-add_loaded-clause-ok g c =
    adds_one (g.T.Tree.told c.args.tree.now) c.args.loading.now.limits c.args.loading.now.lines_include_newline c.args.path.now c.in-Ok-from_str.path c.args.room.now c.load_file_within.new.room c.args.repository.now c.load_file_within.new.repository c.args.builder.now c.add_loaded.new.self c.in-Ok.syntax
    c.requires c.in-Ok.ensures.ok c.in-Ok-from_str.ensures c.in-Ok-add_loaded.ensures.ok c.in-Ok-add_loaded.ensures.paths
    c.add_loaded.ensures.entries c.add_loaded.ensures.metadata

pub returns-in-Err-add_loaded-clause-refusal : goal.returns-in-Err-add_loaded-clause-refusal
returns-in-Err-add_loaded-clause-refusal g c = no_memory_for (g.T.Tree.told c.args.tree.now) c.args.loading.now.limits c.args.loading.now.lines_include_newline c.args.path.now c.args.room.now c.args.repository.now c.requires

pub returns-in-Err-clause-refusal : goal.returns-in-Err-clause-refusal
returns-in-Err-clause-refusal g c = at_grammar c.requires c.in-Err.ensures.err
