use Rattle.std.proofs.Common.{string_bytes, Some, arith}
use Rattle.std.proofs.lemmas.Grind.{common_steps}
use Rattle.std.proofs.lemmas.Map.Text.{btree_map_updates_text}
use Rattle.std.specs.BTreeMap.Entry.{map_with_value}
use Rattle.syntect_scope.proofs.repository.number_or.Goals as goal

pub returns-clause-ok : goal.returns-clause-ok
returns-clause-ok c = λ t.
    let number = c.or_insert.result.now in
    let sets = btree_map_updates_text (string_bytes c.in_ok-key.key) c.args.numbers.now (map_with_value c.in_ok-numbers.field-0 number) (Some number) (c.in_ok-numbers.ensures.update.0 number) t in
    grind (arith, common_steps, sets)
