use Rattle.std.proofs.Common.{ℕ, List, sym, subst}
use Rattle.syntect_base.specs.Trees.{begins, line_not_read, line_no_text}
use Rattle.syntect_base.proofs.tree.first_line.Goals as goal

pub returns-in-Err-clause-err : goal.returns-in-Err-clause-err
returns-in-Err-clause-err g c = line_not_read {e = c.in-Err.e} c.in-Err.ensures.err

pub returns-in-Ok-text_of-clause-ok : goal.returns-in-Ok-text_of-clause-ok
returns-in-Ok-text_of-clause-ok g c = subst (λ (line : List ℕ). g.T.Tree.told c.args.tree.now (begins c.args.path.now line)) (sym c.in-Ok-text_of.ensures.ok) c.in-Ok.ensures.ok

pub returns-in-Err-text_of-clause-err : goal.returns-in-Err-text_of-clause-err
returns-in-Err-text_of-clause-err g c = line_no_text {line = c.in-Ok.bytes.items} c.in-Ok.ensures.ok c.in-Err-text_of.ensures.err c.in-Err-text_of.ensures.kind
