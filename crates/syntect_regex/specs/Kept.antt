-- What is kept of a pattern to search it.
use Rattle.std.specs.Prelude.{ℕ, List}
use Rattle.syntect_regex.specs.syntect_pattern_compile.Compiled.{Compiles}
use Rattle.syntect_regex.specs.declared.compiled.Kept.{Kept}

-- ---- What invariants alone rest on ----

-- a program that was made with the pattern is that of its text; of one that is made later nothing
-- is known before
abbrev pub IsKeptOf : List ℕ → Kept → Type 0
IsKeptOf pattern (Kept.Own program) = Compiles pattern program.value
IsKeptOf pattern (Kept.Late cell) = Unit {0}
