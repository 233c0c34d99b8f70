use Rattle.std.proofs.Common.{◌≤◌, length, take, sym, subst, arith}
use Rattle.std.specs.Io.KnownBytes.{Appends}
use Rattle.syntect_cat.proofs.WriteLaws.{appends_kept, part_more, within_more}
use Rattle.syntect_cat.proofs.put.put.Goals.{in-Ok, in-Err+else-ne}
use Rattle.syntect_cat.proofs.put.put.Goals as goal

pub loop-preserved : goal.loop-preserved
loop-preserved g c =
    let old = g.W.Write.contents c.args.writer.now in
    let mid = g.W.Write.contents c.loop.writer in
    let new = g.W.Write.contents c.write.new.self in
    let bytes = c.args.bytes.now in
    elim c.match-write.branch [
      | in-Ok w ↦ record {
        within = within_more bytes c.loop.from w.in-Ok.count c.match-write.from w.from-is (omega (arith, c.if-from-bytes.false)) w.in-Ok.ensures.bound;
        so_far = part_more old mid new bytes c.loop.from w.in-Ok.count c.match-write.from w.from-is c.loop.invariant.so_far w.in-Ok.ensures.bytes;
      }
      | in-Err+else-ne w ↦ record {
        within = subst (λ n. n ≤ length bytes) (sym w.from-is) c.loop.invariant.within;
        so_far = appends_kept old mid new (take c.match-write.from bytes) (subst (λ n. Appends old mid (take n bytes)) (sym w.from-is) c.loop.invariant.so_far) w.in-Err.ensures.bytes;
      }
    ]
