use Rattle.std.proofs.Common.{◌∙◌, ap, sym}
use Rattle.std.specs.List.{list_any}
use Rattle.syntect_grammar_lists.specs.Told.{flats_in, has_captures_in, places_of}
use Rattle.syntect_grammar_lists.proofs.SlimLaws.{captures_widened}
use Rattle.syntect_grammar_lists.proofs.ToldLaws.{table_captures}
use Rattle.syntect_grammar_lists.proofs.list.FlatList.has_captures.Goals as goal

pub returns-in-Plain : goal.returns-in-Plain
returns-in-Plain c =
    c.any_captures.ensures ∙ ap (list_any (λ s. s.has_captures)) c.as_slice.ensures.value ∙ sym (captures_widened c.in-Plain.places.items c.in-Plain.slims.items)
    ∙ ap (list_any (λ f. f.has_captures)) (ap (flats_in (places_of c.self.inside.ascii c.self.inside.wide c.self.inside.end)) (sym c.in-Plain.is) ∙ c.self.view_is)

pub returns-in-Tabled : goal.returns-in-Tabled
returns-in-Tabled c =
    c.any_spot_captures.ensures ∙ ap (list_any (λ s. has_captures_in s.entry)) c.as_slice-in-Tabled.ensures.value
    ∙ table_captures (places_of c.self.inside.ascii c.self.inside.wide c.self.inside.end) c.in-Tabled.table c.args.self.now (ap (flats_in (places_of c.self.inside.ascii c.self.inside.wide c.self.inside.end)) (sym c.in-Tabled.is) ∙ c.self.view_is) c.deref.result.now c.deref.ensures
