use Rattle.std.proofs.Common.{ap, sym, ◌∙◌}
use Rattle.serde_json.specs.View.{view, items_view}
use Rattle.syntect_theme_files.specs.Loading.{own_text, head_in}
use Rattle.syntect_theme_files.proofs.LoadLaws.{head_refused, refused_so}
use Rattle.syntect_theme_files.proofs.load_theme.head_in.Goals as goal

pub returns-in-Err-first_settings-clause-err : goal.returns-in-Err-first_settings-clause-err
returns-in-Err-first_settings-clause-err c =
    refused_so (head_in (view c.args.value.now)) c.in-Err-first_settings.e
    (head_refused (view c.args.value.now) _ _ (items_view c.in-Ok-items_of.items.now) c.in-Err-first_settings.e
    (ap own_text (sym c.get.ensures) ∙ c.in-Ok.ensures.ok) (ap own_text (sym c.get-2.ensures) ∙ c.in-Ok-own_text.ensures.ok) c.in-Ok-items_of.ensures.ok c.in-Err-first_settings.ensures.err)
