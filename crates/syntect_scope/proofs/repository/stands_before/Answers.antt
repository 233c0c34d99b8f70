use Rattle.std.proofs.Common.{rules, tests, lit<}
use Rattle.std.proofs.lemmas.Iterator.{YieldsList-from_take}
use Rattle.std.proofs.lemmas.Iterator.Consumers.{YieldsList-at}
use Rattle.std.proofs.lemmas.Iterator.Search.{any_from_yields_List}
use Rattle.std.proofs.lemmas.Iterator.Splits.{YieldsList-from_str_split}
use Rattle.std.specs.Str.{bytes_eq}
use Rattle.syntect_scope.proofs.repository.stands_before.Goals as goal

pub returns : goal.returns
returns c =
    let parts = YieldsList-from_str_split 46 c.args.s.now (lit< tt) c.split.ensures.text c.split.ensures.has_more c.split.ensures.pattern in
    let taken = YieldsList-from_take c.args.count (YieldsList-at c.take.ensures.source parts) c.take.ensures.count in
    any_from_yields_List (bytes_eq c.args.part.now) _ _ c.any.result c.any.ensures.ran taken (λ x b q k. search (rules, tests))
