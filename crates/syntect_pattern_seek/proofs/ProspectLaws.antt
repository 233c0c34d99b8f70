-- What is known of a pattern in a text.
use Rattle.std.proofs.Common.{ℕ, List}
use Rattle.syntect_pattern_compile.specs.Compiled.{IsCompiled}
use Rattle.syntect_pattern_seek.specs.syntect_pattern_table.Program.{CannotBeginFrom}
use Rattle.syntect_pattern_seek.specs.syntect_pattern_table.declared.program.Program.{Program}
use Rattle.syntect_pattern_seek.specs.Prospect.{NoneBeginsIn}
use Rattle.syntect_pattern_seek.proofs.NextLaws.{found-next, pattern-next}

-- a pattern whose program can begin nowhere from a place on begins in no stretch from there
pub none_from : (s pattern : List ℕ) (p : Program) → IsCompiled pattern p → (from until : ℕ) → CannotBeginFrom s p from → NoneBeginsIn pattern s from until
none_from s pattern p is from until none k a b =
    pattern-next s pattern is.tree k is.reads (found-next s is.tree k (none k a is.tree is.program))
