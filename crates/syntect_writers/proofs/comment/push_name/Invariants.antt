use Rattle.std.proofs.Common.{◌≡◌, ◌++◌, string_bytes, drop}
use Rattle.std.specs.Prelude.{encode_utf8_all}
use Rattle.syntect_writers.specs.Comment.{told_name}
use Rattle.syntect_writers.proofs.comment.push_name.Given as goal

-- what is written, and the rest of what is kept, are the whole
abbrev pub invariant-loop-c : goal.invariant-loop-c
invariant-loop-c l = string_bytes l.out ++ encode_utf8_all (drop l.c-index l.c-items) ≡ string_bytes l.fn.out ++ told_name l.fn.name
