use Rattle.std.proofs.Common.{◌≡◌, arith}
use Rattle.std.proofs.lemmas.Grind.{common_steps}
use Rattle.std.specs.List.{prefix_len}
use Rattle.syntect_yaml.specs.Lines.{is_space}
use Rattle.syntect_yaml.proofs.RunLaws.{spaces_boundary}
use Rattle.syntect_yaml.proofs.literal.push_line.Goals as goal

pub split_at-requires : goal.split_at-requires
split_at-requires c =
    let k : c.run_len.result ≡ prefix_len is_space c.args.text.now = grind (arith, common_steps) in
    spaces_boundary c.min-depth.result c.args.text.now c.utf8.text (omega (arith, c.min-depth.ensures))
