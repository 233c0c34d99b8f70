-- What prevails among candidates.
use Rattle.std.specs.Prelude.{◌≡◌, false, List, All, Contains}
use Rattle.syntect_style.specs.Candidates.{Candidate, beats}

-- a candidate among these that none of them beats
pub record IsGreatest (V : Type 0) (cs : List (Candidate V)) (c : Candidate V) : Type 0 where
  pub among : Contains cs c
  pub unbeaten : All (λ d. beats d.score c.score ≡ false) cs
