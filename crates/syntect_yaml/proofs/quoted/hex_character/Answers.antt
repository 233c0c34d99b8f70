use Rattle.std.proofs.Common.{◌≤◌, sym, subst, arith}
use Rattle.std.specs.List.{prefix_len}
use Rattle.std.specs.Str.Parse.{AllDigits}
use Rattle.syntect_yaml.specs.Scalars.{is_hex}
use Rattle.syntect_yaml.proofs.QuotedLaws.{hex_digits, hex_boundary}
use Rattle.std.proofs.lemmas.Grind.{common_steps}
use Rattle.syntect_yaml.proofs.quoted.hex_character.Goals as goal

pub split_at-requires : goal.split_at-requires
split_at-requires c =
    let enough : c.args.n ≤ prefix_len is_hex c.args.text.now = grind (arith, common_steps) in
    hex_boundary c.args.n c.args.text.now c.utf8.text enough

pub hex_number-requires : goal.hex_number-requires
hex_number-requires c =
    let enough : c.args.n ≤ prefix_len is_hex c.args.text.now = grind (arith, common_steps) in
    (omega (arith, c.split_at.ensures.front_len), subst (AllDigits 16) (sym c.split_at.ensures.front) (hex_digits c.args.n c.args.text.now enough))
