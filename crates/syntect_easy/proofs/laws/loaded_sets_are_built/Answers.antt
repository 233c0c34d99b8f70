use Rattle.syntect_easy.proofs.BuiltLaws.{built_begins_plain}
use Rattle.syntect_easy.proofs.LoadedSetLaws.{builders_hold, finds_own, built_of}
use Rattle.syntect_easy.proofs.StayLaws.{loaded_are_named, loaded_are_plain, loaded_stay}
use Rattle.syntect_easy.proofs.laws.loaded_sets_are_built.Goals as goal

pub returns-clause-builders : goal.returns-clause-builders
returns-clause-builders c = builders_hold

pub returns-clause-found : goal.returns-clause-found
returns-clause-found c = finds_own

pub returns-clause-premises : goal.returns-clause-premises
returns-clause-premises c = λ set syntax s o.
    let plain = loaded_are_plain s.0 s.2 in
    let built = built_of set syntax s.0 s.1 plain o in
    record {
      definitions = s.0;
      loaded = s.2;
      built = record { links = s.1; plain = plain };
      built_of = built;
      by_name = loaded_are_named c.loaded_by_name.ensures s.0 s.2;
      stays = loaded_stay set syntax s.0 built s.2;
      begins_plain = built_begins_plain set syntax s.0 built;
    }
