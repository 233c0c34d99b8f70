use Rattle.std.proofs.Common.{◌≡◌, ℕ, ◌<◌, ◌≤◌, false, length}
use denote.Text.{Utf8}
use denote.Shadow.{shadow}
use Rattle.syntect_yaml.specs.Yaml.{begin}
use Rattle.syntect_yaml.proofs.read.begin.Given as goal

abbrev pub invariant-lines : goal.invariant-lines
invariant-lines l =
    shadow (Utf8 l.rest) × (length l.rest ≤ length l.fn.text)
    × ((n : ℕ) → length l.fn.text < n → (m : ℕ) × (length l.rest < m) × (begin n false l.fn.text ≡ begin m l.directed l.rest))

abbrev pub decreases-lines : goal.decreases-lines
decreases-lines l = length l.rest
