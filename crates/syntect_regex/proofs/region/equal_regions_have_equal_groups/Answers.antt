use Rattle.syntect_regex.proofs.RegionLaws.{groups-equal, groups-same}
use Rattle.syntect_regex.proofs.region.equal_regions_have_equal_groups.Goals as goal

pub returns : goal.returns
returns c = λ x y. (groups-equal x y, groups-same x y)
