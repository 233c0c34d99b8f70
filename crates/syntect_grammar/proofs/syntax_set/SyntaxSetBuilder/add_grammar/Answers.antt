use Rattle.syntect_grammar.specs.Folders.{at_grammar}
use Rattle.syntect_grammar_loader.specs.Files.{no_room}
use Rattle.syntect_grammar.proofs.FolderLaws.{adds_one}
use Rattle.syntect_grammar.proofs.syntax_set.SyntaxSetBuilder.add_grammar.Goals as goal

pub returns-in_default-clause-refusal : goal.returns-in_default-clause-refusal
returns-in_default-clause-refusal g c = at_grammar c.requires no_room

pub returns-in-Ok-add_loaded-clause-ok : goal.returns-in-Ok-add_loaded-clause-ok
returns-in-Ok-add_loaded-clause-ok g c =
    adds_one (g.T.Tree.told c.args.tree.now) c.args.lines_include_newline c.args.path.now c.in-Ok-from_str.path c.in-Ok.ensures.ok.0 c.args.repository.now c.load_file.new.repository c.args.self.now c.add_loaded.new.self c.in-Ok.syntax
    c.requires c.in-Ok.ensures.ok.1 c.in-Ok.ensures.ok.2 c.in-Ok-from_str.ensures c.in-Ok-add_loaded.ensures.ok c.in-Ok-add_loaded.ensures.paths
    c.add_loaded.ensures.entries c.add_loaded.ensures.metadata

pub returns-in-Err-add_loaded-clause-refusal : goal.returns-in-Err-add_loaded-clause-refusal
returns-in-Err-add_loaded-clause-refusal g c = at_grammar c.requires no_room

pub returns-in-Err-clause-refusal : goal.returns-in-Err-clause-refusal
returns-in-Err-clause-refusal g c = at_grammar c.requires c.in-Err.ensures.err
