use Rattle.std.proofs.Common.{subst, sym, arith}
use Rattle.syntect_grammar_lists.proofs.ToldLaws.{IsTableOf, keeps_table}
use Rattle.syntect_grammar_lists.proofs.list.tabled_form.Goals as goal

pub returns : goal.returns
returns c =
    keeps_table c.args.flats.now c.in_ok-new.field-0
    (subst (IsTableOf c.args.flats.now) (sym c.in_ok-new.ensures.ok) (record {
      room = omega arith;
      whole = c.in_ok-rows.ensures.whole;
      rows = c.in_ok-rows.ensures.rows;
      spots = rw c.in-Some.is at c.in_ok-spots.ensures;
    }))
