use Rattle.std.proofs.Common.{◌≡◌, ◌++◌, string_bytes, drop}
use Rattle.syntect_assets.specs.Screen.{screen_text}
use Rattle.syntect_assets.proofs.screen.push_screen_text.Given as goal

-- what is written, and the pieces that are left, are the whole
abbrev pub invariant-loop-style : goal.invariant-loop-style
invariant-loop-style l = string_bytes l.out ++ screen_text l.colors (drop l.style-index l.pieces) ≡ string_bytes l.fn.out ++ screen_text l.colors l.pieces
