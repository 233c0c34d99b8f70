use Rattle.std.proofs.Common.{ap, ◌∙◌}
use Rattle.std.specs.List.{insert}
use Rattle.std.specs.Global.{Vec}
use Rattle.syntect_blocks.proofs.Gaps.{put_in, block_read, same_block}
use Rattle.syntect_blocks.proofs.blocks.put.Goals as goal

pub returns-clause-ok : goal.returns-clause-ok
returns-clause-ok g c =
    let gap = rw c.as_slice.ensures.value at c.gap_of-block.ensures in
    let e = block_read c.args.blocks.now.items c.args.index c.gap_of-block.result.0 c.gap_of-block.result.1 c.index_mut.result.now gap c.index_mut.ensures.value in
    put_in c.args.blocks.now.items c.args.index c.gap_of-block.result.0 c.gap_of-block.result.1 c.insert.new.self c.args.x gap
    (c.in-Ok.ensures.items ∙ ap (λ (v : Vec g.row.T.Denot). insert v.items c.gap_of-block.result.1 c.args.x) e)

pub returns-in-Err-clause-err : goal.returns-in-Err-clause-err
returns-in-Err-clause-err g c =
    let gap = rw c.as_slice.ensures.value at c.gap_of-block.ensures in
    let e = block_read c.args.blocks.now.items c.args.index c.gap_of-block.result.0 c.gap_of-block.result.1 c.index_mut.result.now gap c.index_mut.ensures.value in
    same_block c.args.blocks.now.items c.args.index c.gap_of-block.result.0 c.gap_of-block.result.1 c.insert.new.self gap
    (c.in-Err.ensures.items ∙ ap (λ (v : Vec g.row.T.Denot). v.items) e)
