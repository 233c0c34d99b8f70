use Rattle.std.proofs.Common.{◌≡◌, ◌<◌, ◌≤◌, false, get_or, drop}
use Rattle.syntect_yaml.specs.Scalars.{plain_len}
use Rattle.syntect_yaml.proofs.PlainLaws.{from_end}
use Rattle.syntect_yaml.proofs.plain.plain_len.Given as goal

abbrev pub invariant-bytes : goal.invariant-bytes
invariant-bytes l =
    (l.end ≤ l.at) × (l.end < l.at → get_or l.text l.end 0 < 128)
    × (plain_len l.flow false l.text ≡ from_end l.end l.at (plain_len l.flow l.spaced (drop l.at l.text)))
