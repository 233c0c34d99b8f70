-- Values of JSON in files.
use Rattle.std.specs.Prelude.{◌≡◌, ℕ, List, false, IsUtf8, Some}
use Rattle.serde_json.specs.Data.{Data}
use Rattle.serde_json.specs.Read.{read}
use Rattle.serde_json.specs.Written.{has_float}

-- the value that bytes are as JSON, in which no number is a float
pub record IsSettings (bytes : List ℕ) (d : Data) : Type 0 where
  pub text : IsUtf8 bytes
  pub value : read bytes ≡ Some d
  pub whole : has_float d ≡ false
