use Rattle.std.proofs.Common.{◌≡◌, ℕ, ◌<◌, ◌≤◌, length}
use denote.Text.{Utf8}
use denote.Shadow.{shadow}
use Rattle.syntect_yaml.specs.Literal.{text_column}
use Rattle.syntect_yaml.proofs.literal.text_column.Given as goal

abbrev pub invariant-lines : goal.invariant-lines
invariant-lines l =
    shadow (Utf8 l.rest) × (length l.rest ≤ length l.fn.text)
    × ((n : ℕ) → length l.fn.text < n → (m : ℕ) × (length l.rest < m) × (text_column n l.fn.text ≡ text_column m l.rest))

abbrev pub decreases-lines : goal.decreases-lines
decreases-lines l = length l.rest
