use Rattle.syntect_regex.proofs.RegionLaws.{region-left}
use Rattle.syntect_regex.proofs.regex.Regex.search.Goals as goal

pub returns-in-Some-clause-region : goal.returns-in-Some-clause-region
returns-in-Some-clause-region c =
    rw c.in-Some.is (region-left c.search_into.result _ c.in-Some.region.now c.search_into.new.region c.search_into.ensures.ok c.search_into.ensures.err)

pub returns-in-Some-clause-groups : goal.returns-in-Some-clause-groups
returns-in-Some-clause-groups c = rw c.in-Some.is c.search_into.ensures.groups
