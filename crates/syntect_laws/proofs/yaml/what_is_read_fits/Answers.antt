use Rattle.syntect_laws.proofs.FoundLaws.{read_fits, read_again}
use Rattle.syntect_laws.proofs.yaml.what_is_read_fits.Goals as goal

pub returns : goal.returns
returns c = record { fits = read_fits; again = read_again }
