use Rattle.std.proofs.Common.{◌≡◌, ℕ, List, Option, option_map, Bor, ap, ◌∙◌, subst}
use Rattle.std.specs.Path.{path_file_stem}
use Rattle.syntect_grammar_loader.specs.Loading.{loaded}
use Rattle.syntect_grammar_loader.specs.LoadingSteps.{Fails}
use Rattle.syntect_grammar_loader.proofs.files.load_text.Goals as goal

pub returns-in-Err-clause-err : goal.returns-in-Err-clause-err
returns-in-Err-clause-err c =
    let stem : option_map (λ (t : Bor (List ℕ)). t.now) c.file_stem.result ≡ path_file_stem c.args.path.now = c.file_stem.ensures ∙ ap path_file_stem c.new.ensures in
    c.refused_file.ensures c.args.lines_include_newline c.args.repository.now c.args.text.now c.utf8.text
    (subst (λ (n : Option (List ℕ)). Fails (loaded c.args.text.now c.args.lines_include_newline n c.args.repository.now) c.in-Err.e) stem c.in-Err.ensures.value)
