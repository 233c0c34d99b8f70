use Rattle.std.proofs.Common.{◌≡◌, ◌<◌, length, arith}
use Rattle.std.proofs.lemmas.Grind.{common_steps}
use Rattle.syntect_base.proofs.NameLaws.{entries_at_end, lost_at_end, entries_at_nul, lost_at_nul}
use Rattle.syntect_base.proofs.utils.first_name.Goals as goal

pub returns-then-is_empty-clause-entries : goal.returns-then-is_empty-clause-entries
returns-then-is_empty-clause-entries c =
    let none : length c.split_at.result.1.now ≡ 0 = grind (arith, common_steps) in
    entries_at_end c.args.bytes.now c.split_at.result.0.now c.split_at.result.1.now c.name_len.result c.name_len.ensures.value c.split_at.ensures.front c.split_at.ensures.back none

pub returns-then-is_empty-clause-lost : goal.returns-then-is_empty-clause-lost
returns-then-is_empty-clause-lost c = λ sought.
    let none : length c.split_at.result.1.now ≡ 0 = grind (arith, common_steps) in
    lost_at_end c.args.bytes.now c.split_at.result.0.now c.split_at.result.1.now c.name_len.result c.name_len.ensures.value c.split_at.ensures.front c.split_at.ensures.back sought none

pub returns-clause-entries : goal.returns-clause-entries
returns-clause-entries c =
    let some : 0 < length c.split_at.result.1.now = grind (arith, common_steps) in
    entries_at_nul c.args.bytes.now c.split_at.result.0.now c.split_at.result.1.now c.name_len.result c.name_len.ensures.value c.split_at.ensures.front c.split_at.ensures.back
    c.split_at-2.result.1.now some c.split_at-2.ensures.back

pub returns-clause-lost : goal.returns-clause-lost
returns-clause-lost c = λ sought.
    let some : 0 < length c.split_at.result.1.now = grind (arith, common_steps) in
    lost_at_nul c.args.bytes.now c.split_at.result.0.now c.split_at.result.1.now c.name_len.result c.name_len.ensures.value c.split_at.ensures.front c.split_at.ensures.back
    sought c.split_at-2.result.1.now some c.split_at-2.ensures.back
