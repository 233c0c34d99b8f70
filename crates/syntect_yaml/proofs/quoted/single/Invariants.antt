use Rattle.std.proofs.Common.{◌≡◌, ℕ, ◌<◌, ◌≤◌, length}
use denote.Text.{Utf8}
use denote.Shadow.{shadow}
use Rattle.syntect_yaml.specs.Scalars.{single, prepend}
use Rattle.syntect_yaml.proofs.quoted.single.Given as goal

abbrev pub invariant-pieces : goal.invariant-pieces
invariant-pieces l =
    shadow (Utf8 l.rest) × (length l.rest ≤ length l.fn.text)
    × ((n : ℕ) → length l.fn.text < n → (m : ℕ) × (length l.rest < m) × (single n l.fn.text ≡ prepend l.out (single m l.rest)))

abbrev pub decreases-pieces : goal.decreases-pieces
decreases-pieces l = length l.rest
