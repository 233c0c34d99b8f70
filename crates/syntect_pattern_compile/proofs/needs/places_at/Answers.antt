use Rattle.std.proofs.Common.{ap, ◌∙◌}
use Rattle.syntect_pattern_table.specs.Starts.{is_in}
use Rattle.syntect_pattern_table.specs.declared.starts.Places.{Places}
use Rattle.syntect_pattern_table.proofs.PlaceListLaws.{places_or}
use Rattle.syntect_pattern_compile.proofs.needs.places_at.Goals as goal

pub returns : goal.returns
returns c = λ ts known x l.
    ap (λ (p : Places). is_in p x) (places_or c.args.firsts.now c.args.place c.get.result c.unwrap_or.result c.anywhere.result c.get.ensures c.unwrap_or.ensures)
    ∙ known c.args.place x c.anywhere.result c.requires l
