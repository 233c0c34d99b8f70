use Rattle.std.proofs.Common.{◌∙◌, ap, sym, arith}
use Rattle.syntect_grammar_lists.specs.Told.{flats_in, places_of}
use Rattle.syntect_grammar_lists.proofs.SlimLaws.{origin_stands}
use Rattle.syntect_grammar_lists.proofs.ToldLaws.{table_length, table_origin}
use Rattle.syntect_grammar_lists.proofs.list.FlatList.origin_at.Goals as goal

pub returns-in-Plain : goal.returns-in-Plain
returns-in-Plain c = λ d.
    c.origin_of.ensures c.in-Plain.places.items
    ∙ origin_stands c.in-Plain.places.items c.in-Plain.slims.items c.args.self.now c.args.index c.index.result.now d (ap (flats_in (places_of c.self.inside.ascii c.self.inside.wide c.self.inside.end)) (sym c.in-Plain.is) ∙ c.self.view_is) c.requires c.index.ensures

pub index-requires-in-Tabled : goal.index-requires-in-Tabled
index-requires-in-Tabled c =
    omega (arith, c.requires, c.deref-table.result.now.spots.ok.0, table_length (places_of c.self.inside.ascii c.self.inside.wide c.self.inside.end) c.in-Tabled.table c.args.self.now (ap (flats_in (places_of c.self.inside.ascii c.self.inside.wide c.self.inside.end)) (sym c.in-Tabled.is) ∙ c.self.view_is) c.deref-table.result.now c.deref-table.ensures)

pub returns-in-Tabled : goal.returns-in-Tabled
returns-in-Tabled c = λ d.
    c.origin_of_spot.ensures
    ∙ table_origin (places_of c.self.inside.ascii c.self.inside.wide c.self.inside.end) c.in-Tabled.table c.args.self.now (ap (flats_in (places_of c.self.inside.ascii c.self.inside.wide c.self.inside.end)) (sym c.in-Tabled.is) ∙ c.self.view_is) c.deref-table.result.now c.deref-table.ensures
    c.args.index c.index-in-Tabled.result.now d c.requires c.index-in-Tabled.ensures
