use Rattle.std.proofs.Common.{◌∙◌, ap}
use Rattle.std.specs.Prelude.{option_and_then}
use Rattle.std.specs.Result.{result_ok}
use Rattle.serde_json.specs.View.{view}
use Rattle.syntect_theme_files.specs.Loading.{color_in}
use Rattle.syntect_theme_files.proofs.LoadLaws.{ok_of}
use Rattle.syntect_theme_files.proofs.load_theme.color_field.Goals as goal

pub returns-in-Some : goal.returns-in-Some
returns-in-Some c = c.ok.ensures.value ∙ ap result_ok c.color.ensures ∙ ok_of (color_in (view c.in-Some.value.now)) _ ∙ ap (option_and_then color_in) c.in-Some.ensures
