use Rattle.syntect_pattern.proofs.NumberLaws.{numbers_groups}
use Rattle.syntect_pattern.proofs.laws.groups_are_numbered.Goals as goal

pub returns : goal.returns
returns c = numbers_groups
