use Rattle.std.proofs.Common.{refl, inl, inr, ◌∙◌}
use Rattle.syntect_cat.specs.Faults.{fault_line, without_limit}
use Rattle.syntect_cat.proofs.ShownLaws.{plain_told}
use Rattle.syntect_cat.proofs.WriteLaws.{line_begun}
use Rattle.syntect_cat.proofs.program.tell.Goals as goal

pub returns-in-Ok : goal.returns-in-Ok
returns-in-Ok g c = (
  c.args.fault.now,
  line_begun c.put.result (g.E.Write.contents c.args.err.now) (g.E.Write.contents c.put.new.writer) c.as_bytes.result.now (fault_line c.args.fault.now) (c.as_bytes.ensures.value ∙ c.in-Ok.ensures) c.put.ensures.ok c.put.ensures.err,
  inl refl,
)

pub returns-in-Err : goal.returns-in-Err
returns-in-Err g c = (
  without_limit c.args.fault.now,
  line_begun c.put-in-Err.result (g.E.Write.contents c.args.err.now) (g.E.Write.contents c.put-in-Err.new.writer) c.as_bytes-in-Err.result.now (fault_line (without_limit c.args.fault.now))
      (c.as_bytes-in-Err.ensures.value ∙ c.plain_line.ensures ∙ plain_told c.args.fault.now) c.put-in-Err.ensures.ok c.put-in-Err.ensures.err,
  inr refl,
)
