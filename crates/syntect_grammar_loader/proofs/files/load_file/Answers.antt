use Rattle.std.proofs.Common.{ℕ, List, string_bytes}
use Rattle.syntect_grammar_loader.specs.Files.{IsSyntaxOf}
use Rattle.syntect_grammar_loader.specs.declared.definition.SyntaxDefinition.{SyntaxDefinition}
use Rattle.syntect_grammar_loader.proofs.SyntaxFileLaws.{no_text_no_syntax, text_refused, text_gives}
use Rattle.syntect_grammar_loader.proofs.files.load_file.Goals as goal

pub returns-in-Ok-clause-ok : goal.returns-in-Ok-clause-ok
returns-in-Ok-clause-ok g c =
    text_gives (g.T.Tree.told c.args.tree.now) c.args.lines_include_newline c.args.path.now c.args.repository.now (string_bytes c.in-Ok.text) c.as_str.result.now c.as_str.ensures.value c.in-Ok.ensures.ok
    (λ (bytes : List ℕ) (d : SyntaxDefinition). IsSyntaxOf c.args.lines_include_newline c.args.path.now c.args.repository.now bytes c.load_text.new.repository d) c.load_text.result c.load_text.ensures.ok

pub returns-in-Ok-clause-err : goal.returns-in-Ok-clause-err
returns-in-Ok-clause-err g c =
    text_refused (g.T.Tree.told c.args.tree.now) c.args.lines_include_newline c.args.path.now c.args.repository.now (string_bytes c.in-Ok.text) c.as_str.result.now c.as_str.ensures.value c.in-Ok.ensures.ok
    c.load_text.result c.load_text.ensures.err

pub returns-in-Err-clause-err : goal.returns-in-Err-clause-err
returns-in-Err-clause-err g c = no_text_no_syntax (g.T.Tree.told c.args.tree.now) c.args.lines_include_newline c.args.path.now c.args.repository.now c.in-Err.e c.from.result c.in-Err.ensures.err c.from.ensures
