use Rattle.std.proofs.Common.{ap, ◌∙◌}
use Rattle.syntect_theme.specs.Flags.{bits_without}
use Rattle.syntect_theme.proofs.FlagText.{flags_written}
use Rattle.syntect_theme.proofs.formats.FontStyleDebug.fmt.Goals as goal

pub returns : goal.returns
returns g c = record {
  writes = λ plain ok. flags_written g.W.Write.write_str_gives c.args.f.now c.write_flag.new.f c.write_flag-2.new.f c.write_flag-3.new.f c.write_others.new.f c.args.self.now.bits c.bits.result
      c.contains.result c.contains-2.result c.contains-3.result c.in_ok-is_first.is_first c.in_ok-is_first-2.is_first c.in_ok-is_first-3.is_first
      c.contains.ensures c.contains-2.ensures c.contains-3.ensures c.in_ok-is_first.ensures.next c.in_ok-is_first-2.ensures.next c.in_ok-is_first-3.ensures.next
      c.in_ok-is_first.ensures.writes c.in_ok-is_first-2.ensures.writes c.in_ok-is_first-3.ensures.writes (λ p. c.write_others.ensures p ok)
      (c.bits.ensures ∙ c.difference.ensures ∙ ap (λ m. bits_without c.args.self.now.bits m) c.all.ensures) plain;
}
