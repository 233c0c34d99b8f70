use Rattle.syntect_easy.proofs.StayLaws.{loaded_are_named, loaded_stay}
use Rattle.syntect_easy.proofs.laws.loaded_sets_stay.Goals as goal

pub returns-clause-named : goal.returns-clause-named
returns-clause-named c = λ definitions h. loaded_are_named c.loaded_by_name.ensures definitions h

pub returns-clause-stay : goal.returns-clause-stay
returns-clause-stay c = loaded_stay
