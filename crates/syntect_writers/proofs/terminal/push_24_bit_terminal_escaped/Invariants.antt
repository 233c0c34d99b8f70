use Rattle.std.proofs.Common.{◌≡◌, ◌++◌, string_bytes, drop}
use Rattle.syntect_writers.specs.Terminal.{terminal_text}
use Rattle.syntect_writers.proofs.terminal.push_24_bit_terminal_escaped.Given as goal

-- what is written, and the pieces that are left, are the whole
abbrev pub invariant-loop-style : goal.invariant-loop-style
invariant-loop-style l = string_bytes l.out ++ terminal_text l.bg (drop l.style-index l.v) ≡ string_bytes l.fn.out ++ terminal_text l.bg l.v
