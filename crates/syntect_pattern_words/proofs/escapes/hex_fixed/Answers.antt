use Rattle.std.specs.Prelude.{chars}
use Rattle.std.proofs.Common.{◌≡◌, sym, ◌∙◌, ap, length, take, Some, arith, true}
use Rattle.std.specs.List.{list_all}
use Rattle.std.specs.Char.{is_digit}
use Rattle.syntect_pattern.specs.Reading.{Text, value, char_of}
use Rattle.syntect_pattern.specs.Escapes.{char}
use Rattle.syntect_pattern_words.proofs.EscapeLaws.{hex_fixed-is}
use Rattle.syntect_pattern_words.proofs.escapes.hex_fixed.Goals as goal

pub returns : goal.returns
returns c =
    let here = c.before-digits.ensures in
    let long : length (take c.args.count (chars c.args.text.now)) ≡ c.args.count = sym (ap length here) ∙ (let h : length (chars c.before-digits.result.now) ≡ c.args.count = omega arith in h) in
    let all : list_all (λ d. is_digit d 16) (take c.args.count (chars c.args.text.now)) ≡ true = sym (ap (list_all (λ d. is_digit d 16)) here) ∙ sym c.are_hexadecimal.ensures ∙ c.if-not-are_hexadecimal.false in
    hex_fixed-is c.args.count (chars c.args.text.now) c.in_ok-c.c long all (ap (λ (t : Text). char_of (value 16 t)) (sym here) ∙ sym c.in_ok-c.ensures) ∙ ap (λ (t : Text). Some (char c.in_ok-c.c, t)) (sym c.after.ensures)
