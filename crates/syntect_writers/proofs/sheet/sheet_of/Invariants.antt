use Rattle.std.proofs.Common.{◌≡◌, ◌++◌, string_bytes, drop}
use Rattle.std.specs.List.{flat_map}
use Rattle.syntect_writers.specs.Sheet.{rule_text, sheet_text}
use Rattle.syntect_writers.proofs.sheet.sheet_of.Given as goal

-- what is written, and the rules that are left, are the whole
abbrev pub invariant-loop-item : goal.invariant-loop-item
invariant-loop-item l = string_bytes l.out ++ flat_map (rule_text l.prefix l.repository) (drop l.item-index l.item-items) ≡ sheet_text l.prefix l.repository l.theme
