-- Limits of a grammar.
use Rattle.std.specs.Prelude.{ℕ, ◌-◌, ◌^◌, ◌≤◌, nat_eq, if◌then◌else◌, Option, Some, None, IfSome}
use Rattle.syntect_base.specs.declared.limits.Limits.{Limits}

-- none: the greatest numbers that there are
abbrev pub unlimited : Limits
unlimited = record {
  text = 2 ^ 64 - 1;
  pattern = 2 ^ 64 - 1;
  patterns = 2 ^ 64 - 1;
  folder = 2 ^ 64 - 1;
  steps = 2 ^ 64 - 1;
  turns = 2 ^ 64 - 1;
  levels = 2 ^ 64 - 1;
  operations = 2 ^ 64 - 1;
}

-- a hundred times what the greatest of the grammars asks for that this is tried with, and for a
-- folder what all of them do; of all patterns forty times, and of open contexts seven
abbrev pub usual : Limits
usual = record {
  text = 12500000;
  pattern = 3000000;
  patterns = 4000000;
  folder = 200000000;
  steps = 30000000;
  turns = 1000000;
  levels = 200;
  operations = 1000000;
}

-- the limit that a number stands for, of which the greatest is none
abbrev pub limit_of : ℕ → Option ℕ
limit_of n = if nat_eq n (2 ^ 64 - 1) then None else Some n

-- so many are within the limit
abbrev pub IsWithinLimit : ℕ → ℕ → Type 0
IsWithinLimit limit n = IfSome (limit_of limit) (λ most. n ≤ most)
