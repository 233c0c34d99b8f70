use Rattle.std.proofs.Common.{◌++◌, List, ℕ, sym, ap, ◌∙◌}
use Rattle.syntect_writers.specs.Comment.{told_chars, can_be_told}
use Rattle.syntect_writers.proofs.CommentLaws.{told_past, popped, told_more, whole_more, more_of}
use Rattle.syntect_writers.proofs.comment.keep.Goals as goal

pub returns-then-is_left_out-clause-told : goal.returns-then-is_left_out-clause-told
returns-then-is_left_out-clause-told c = λ rest. told_past c.args.kept.now.items rest c.args.c (sym c.is_left_out.ensures ∙ c.if-is_left_out.true)

pub returns-then-ends_comment-clause-told : goal.returns-then-ends_comment-clause-told
returns-then-ends_comment-clause-told c = λ rest. (popped _ _ _ _ c.args.c c.as_slice.ensures.len c.pop.ensures.rest c.as_slice.ensures.value (sym c.ends_comment.ensures ∙ c.if-ends_comment.true)).0 rest

pub returns-then-ends_comment-clause-whole : goal.returns-then-ends_comment-clause-whole
returns-then-ends_comment-clause-whole c = (popped _ _ _ _ c.args.c c.as_slice.ensures.len c.pop.ensures.rest c.as_slice.ensures.value (sym c.ends_comment.ensures ∙ c.if-ends_comment.true)).1

pub returns-clause-told : goal.returns-clause-told
returns-clause-told c = λ rest. ap (λ (l : List ℕ). told_chars (l ++ rest)) c.in_ok-push.ensures.items ∙ told_more c.args.kept.now.items rest c.args.c

pub returns-clause-whole : goal.returns-clause-whole
returns-clause-whole c = λ e. ap can_be_told c.in_ok-push.ensures.items ∙ whole_more c.args.kept.now.items c.args.c e (sym c.is_left_out.ensures ∙ c.if-is_left_out.false) (more_of _ _ c.args.c c.as_slice.ensures.value (sym c.ends_comment.ensures ∙ c.if-ends_comment.false))
