use Rattle.std.proofs.Common.{◌≡◌, [], drop, sym, arith}
use Rattle.std.proofs.lemmas.List.{append-nil}
use Rattle.syntect_reading_choice.proofs.ListLaws.{drop_past}
use Rattle.syntect_parsing.proofs.levels.open_levels.Goals as goal

pub returns : goal.returns
returns c =
    let d : drop c.loop-i.i c.args.ids.now ≡ [] = drop_past c.loop-i.i c.args.ids.now (omega arith) in
    sym (rw (d, append-nil c.loop-i.levels) at (sym c.loop-i.invariant.levels))
