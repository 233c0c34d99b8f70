use Rattle.std.proofs.Common.{◌≡◌, ℕ, List, Option, option_map, Bor, ap, ◌∙◌, subst, Ok, Err}
use Rattle.std.specs.Path.{path_file_stem}
use Rattle.syntect_grammar_limits.proofs.FileLaws.{loaded_within}
use Rattle.syntect_grammar_limits.specs.Limited.{left_of, LoadsWithin}
use Rattle.syntect_grammar_limits.specs.syntect_grammar_loader.Loading.{loaded}
use Rattle.syntect_shelf.proofs.bodies.load_text.Goals as goal

pub returns-in-Ok-clause-ok : goal.returns-in-Ok-clause-ok
returns-in-Ok-clause-ok c =
    let stem : option_map (λ (t : Bor (List ℕ)). t.now) c.file_stem.result ≡ path_file_stem c.args.path.now = c.file_stem.ensures ∙ ap path_file_stem c.new.ensures in
    loaded_within c.args.loading.now.limits c.args.loading.now.lines_include_newline c.args.path.now c.args.text.now c.args.repository.now c.load_from_str_within.new.repository c.utf8.text c.in-Ok.syntax
    (subst (λ (n : Option (List ℕ)). LoadsWithin (left_of c.args.loading.now.limits c.args.text.now) (loaded c.args.text.now c.args.loading.now.lines_include_newline n c.args.repository.now) (Ok c.in-Ok.syntax) c.load_from_str_within.new.repository)
    stem c.in-Ok.ensures.value)

pub returns-in-Err-clause-err : goal.returns-in-Err-clause-err
returns-in-Err-clause-err c =
    let stem : option_map (λ (t : Bor (List ℕ)). t.now) c.file_stem.result ≡ path_file_stem c.args.path.now = c.file_stem.ensures ∙ ap path_file_stem c.new.ensures in
    c.refused_file.ensures c.args.loading.now.limits c.args.loading.now.lines_include_newline c.args.repository.now c.load_from_str_within.new.repository c.args.text.now c.utf8.text
    (subst (λ (n : Option (List ℕ)). LoadsWithin (left_of c.args.loading.now.limits c.args.text.now) (loaded c.args.text.now c.args.loading.now.lines_include_newline n c.args.repository.now) (Err c.in-Err.e) c.load_from_str_within.new.repository)
    stem c.in-Err.ensures.value)
