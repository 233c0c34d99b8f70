use Rattle.syntect_laws.proofs.PlaceLaws as laws
use Rattle.syntect_laws.proofs.grammar.places_are_patterns.Goals as goal

pub returns : goal.returns
returns c = laws.places_are_patterns
