use Rattle.std.proofs.Common.{ℕ, List, ap, sym, ◌∙◌, subst}
use Rattle.std.specs.Option.{option_copied}
use Rattle.std.specs.Path.{path_bytes}
use Rattle.syntect_grammar.specs.syntect_base.Trees.{begins}
use Rattle.syntect_grammar.proofs.FindLaws.{told_by_name, told_by_line, no_line}
use Rattle.syntect_grammar.proofs.syntax_set.SyntaxSet.find_syntax_for_file.Goals as goal

pub returns-in-Some-clause-found : goal.returns-in-Some-clause-found
returns-in-Some-clause-found g c = told_by_name (g.T.Tree.told c.args.tree.now) c.args.self.now (path_bytes c.args.path) c.in-Some.syntax.now c.in-Some.ensures

pub returns-in-Err-clause-refused : goal.returns-in-Err-clause-refused
returns-in-Err-clause-refused g c =
    no_line (g.T.Tree.told c.args.tree.now) c.args.self.now (path_bytes c.args.path) c.as_str.result.now c.as_str.ensures (sym c.find_syntax_by_file_name.ensures ∙ ap option_copied c.in_default.is)
    c.in-Err.e c.from.result c.from.ensures c.in-Err.ensures.err

pub returns-in-Ok-find_syntax_by_first_line-clause-found : goal.returns-in-Ok-find_syntax_by_first_line-clause-found
returns-in-Ok-find_syntax_by_first_line-clause-found g c =
    let Told = g.T.Tree.told c.args.tree.now in
    told_by_line Told c.args.self.now (path_bytes c.args.path) c.as_str.result.now c.as_str.ensures (sym c.find_syntax_by_file_name.ensures ∙ ap option_copied c.in_default.is)
    c.as_str-2.result.now (option_copied c.in-Ok-find_syntax_by_first_line.found) c.as_str-2.utf8
    (subst (λ (line : List ℕ). Told (begins c.as_str.result.now line)) (sym c.as_str-2.ensures.value) c.in-Ok.ensures.ok) c.in-Ok-find_syntax_by_first_line.ensures

pub returns-clause-refused : goal.returns-clause-refused
returns-clause-refused g c = sym c.find_syntax_by_file_name.ensures ∙ ap option_copied c.in_default.is
