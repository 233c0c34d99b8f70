-- The tables of bytes as texts are those of the definitions.
use Rattle.std.proofs.Common.{◌≡◌, ℕ, ◌<◌, List, [], map, get_or, refl, ap, ◌∙◌, arith}
use Rattle.std.specs.Prelude.{decimal}
use Rattle.std.specs.Fmt.{digits}
use Rattle.std.specs.List.{range_with_len}
use Rattle.std.proofs.lemmas.List.FromFn.{get_or-map-range_with_len}
use Rattle.syntect_writers.specs.Spans.{hex_pair}
use Rattle.syntect_writers.specs.declared.bytes.TheConstants.{PAIRS, NUMBERS}

pairs_are : map (λ e. e.now) PAIRS ≡ map hex_pair (range_with_len 0 256)
pairs_are = refl

numbers_are : map (λ e. e.now) NUMBERS ≡ map decimal (range_with_len 0 256)
unfolding digits
numbers_are = refl

looked_up : (f : ℕ → List ℕ) (texts : List (List ℕ)) (b : ℕ) → texts ≡ map f (range_with_len 0 256) → b < 256 → get_or texts b [] ≡ f b
looked_up f texts b e l = ap (λ xs. get_or xs b []) e ∙ get_or-map-range_with_len f 0 256 b b [] l (omega arith)

pub pair_at : (b : ℕ) → b < 256 → get_or (map (λ e. e.now) PAIRS) b [] ≡ hex_pair b
pair_at b l = looked_up hex_pair (map (λ e. e.now) PAIRS) b pairs_are l

pub number_at : (b : ℕ) → b < 256 → get_or (map (λ e. e.now) NUMBERS) b [] ≡ decimal b
number_at b l = looked_up decimal (map (λ e. e.now) NUMBERS) b numbers_are l
