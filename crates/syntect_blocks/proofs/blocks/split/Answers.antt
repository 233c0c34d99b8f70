use Rattle.std.proofs.Common.{ap, ◌∙◌, ◌+◌, ◌/◌, arith, set}
use Rattle.std.specs.Global.{Vec}
use Rattle.std.specs.List.{remove}
use Rattle.syntect_blocks.specs.Joined.{joined}
use Rattle.syntect_blocks.proofs.Gaps.{halves, put_back}
use Rattle.syntect_blocks.proofs.blocks.split.Goals as goal

pub returns-in-Ok-split_off : goal.returns-in-Ok-split_off
returns-in-Ok-split_off g c =
    halves c.args.blocks.now.items c.insert.new.self.items c.args.block (c.len-half.result / 2) c.index_mut.result.now c.new.result c.split_off.new.self c.in-Ok-split_off.tail (omega arith) c.in-Ok.ensures.items c.index_mut.ensures.value
    c.in-Ok-split_off.ensures.items c.in-Ok-split_off.ensures.tail

pub returns-in-Err-split_off : goal.returns-in-Err-split_off
returns-in-Err-split_off g c =
    let all = c.insert.new.self.items in
    ap joined (c.remove.ensures.items ∙ ap (λ (v : Vec g.row.T.Denot). remove (set all c.args.block v) (c.args.block + 1)) c.in-Err-split_off.ensures.err
    ∙ put_back c.args.blocks.now.items all c.args.block c.index_mut.result.now c.new.result (omega arith) c.in-Ok.ensures.items c.index_mut.ensures.value)
