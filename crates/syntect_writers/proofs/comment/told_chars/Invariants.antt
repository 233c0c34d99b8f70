use Rattle.std.proofs.Common.{◌≡◌, ◌++◌, chars, true}
use Rattle.std.specs.Prelude.{IsUtf8}
use Rattle.std.specs.Str.Iter.{chars_rest}
use Rattle.syntect_writers.specs.Comment.{told_chars, can_be_told}
use Rattle.syntect_writers.proofs.comment.told_chars.Given as goal

-- what is kept, and the rest of the name, tell as much as the name
abbrev pub invariant-loop-c : goal.invariant-loop-c
invariant-loop-c l = record {
  utf8 : IsUtf8 (chars_rest l.c-iterator);
  told : told_chars (l.kept.items ++ chars (chars_rest l.c-iterator)) ≡ told_chars (chars l.fn.name);
  whole : can_be_told l.kept.items ≡ true;
}
