use Rattle.syntect_easy.proofs.StayLaws.{loaded_give_scopes}
use Rattle.syntect_easy.proofs.laws.loaded_sets_give_scopes.Goals as goal

pub returns : goal.returns
returns c = λ set syntax definitions start after lines answers.
    loaded_give_scopes set syntax definitions start after lines answers c.bytes_have_scopes.ensures c.links_closed.ensures c.loaded_by_name.ensures
