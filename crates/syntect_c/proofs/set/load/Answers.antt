use Rattle.std.proofs.Common.{◌≡◌, ℕ, List, Option, option_map, true, Bor, ap, ◌∙◌, subst}
use Rattle.std.specs.Path.{path_file_stem}
use Rattle.syntect_assets.specs.syntect_grammar_limits.Limited.{LoadsWithin, left_of}
use Rattle.syntect_assets.specs.syntect_grammar_loader.Loading.{loaded}
use Rattle.syntect_c.proofs.set.load.Goals as goal

pub returns : goal.returns
returns c =
    let stem : option_map (λ (t : Bor (List ℕ)). t.now) c.file_stem-stem.result ≡ path_file_stem c.args.file.now =
    c.file_stem-stem.ensures ∙ ap path_file_stem c.new.ensures in
    subst
    (λ (n : Option (List ℕ)). LoadsWithin (left_of c.args.limits.now c.args.text.now)
    (loaded c.args.text.now true n c.args.repository.now) c.load_from_str_within.result c.load_from_str_within.new.repository)
    stem c.load_from_str_within.ensures.value
