use Rattle.std.proofs.lemmas.Str.Pattern.{ends_text}
use Rattle.syntect_grammar_loader.specs.LoadingValues.{file_ending}
use Rattle.syntect_grammar_loader.proofs.yaml_load_parts.is_file.Goals as goal

pub returns : goal.returns
returns c = ends_text c.ends_with.result file_ending c.args.name.now c.ends_with.ensures.cases
