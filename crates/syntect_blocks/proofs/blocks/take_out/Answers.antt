use Rattle.std.proofs.Common.{ap, sym, ◌∙◌, get_or}
use Rattle.std.specs.List.{remove}
use Rattle.std.specs.Global.{Vec}
use Rattle.syntect_blocks.specs.Joined.{joined}
use Rattle.syntect_blocks.proofs.Gaps.{read_at, taken_out, block_read, emptied_at, no_items}
use Rattle.syntect_blocks.proofs.blocks.take_out.Goals as goal

pub returns-else-is_empty-clause-value : goal.returns-else-is_empty-clause-value
returns-else-is_empty-clause-value g c =
    let place = rw c.as_slice.ensures.value at c.place_of-block.ensures in
    let e = block_read c.args.blocks.now.items c.args.index c.place_of-block.result.0 c.place_of-block.result.1 c.index_mut.result.now place.gap c.index_mut.ensures.value in
    read_at c.args.blocks.now.items c.args.index c.place_of-block.result.0 c.place_of-block.result.1 c.remove-x.result place
    (c.remove-x.ensures.value ∙ ap (λ (v : Vec g.row.T.Denot). get_or v.items c.place_of-block.result.1 c.remove-x.result) e)

pub returns-else-is_empty-clause-rest : goal.returns-else-is_empty-clause-rest
returns-else-is_empty-clause-rest g c =
    let place = rw c.as_slice.ensures.value at c.place_of-block.ensures in
    let e = block_read c.args.blocks.now.items c.args.index c.place_of-block.result.0 c.place_of-block.result.1 c.index_mut.result.now place.gap c.index_mut.ensures.value in
    taken_out c.args.blocks.now.items c.args.index c.place_of-block.result.0 c.place_of-block.result.1 c.remove-x.new.self place
    (c.remove-x.ensures.items ∙ ap (λ (v : Vec g.row.T.Denot). remove v.items c.place_of-block.result.1) e)

pub returns-then-is_empty-clause-rest : goal.returns-then-is_empty-clause-rest
returns-then-is_empty-clause-rest g c =
    let place = rw c.as_slice.ensures.value at c.place_of-block.ensures in
    let e = block_read c.args.blocks.now.items c.args.index c.place_of-block.result.0 c.place_of-block.result.1 c.index_mut.result.now place.gap c.index_mut.ensures.value in
    ap joined c.remove.ensures.items
    ∙ emptied_at c.args.blocks.now.items c.args.index c.place_of-block.result.0 c.place_of-block.result.1 c.remove-x.new.self c.index.result.now place.gap c.index.ensures (no_items c.index.result.now (sym c.if-is_empty.true ∙ c.is_empty.ensures))
    ∙ taken_out c.args.blocks.now.items c.args.index c.place_of-block.result.0 c.place_of-block.result.1 c.remove-x.new.self place
    (c.remove-x.ensures.items ∙ ap (λ (v : Vec g.row.T.Denot). remove v.items c.place_of-block.result.1) e)

pub returns-then-is_empty-clause-value : goal.returns-then-is_empty-clause-value
returns-then-is_empty-clause-value g c =
    let place = rw c.as_slice.ensures.value at c.place_of-block.ensures in
    let e = block_read c.args.blocks.now.items c.args.index c.place_of-block.result.0 c.place_of-block.result.1 c.index_mut.result.now place.gap c.index_mut.ensures.value in
    read_at c.args.blocks.now.items c.args.index c.place_of-block.result.0 c.place_of-block.result.1 c.remove-x.result place
    (c.remove-x.ensures.value ∙ ap (λ (v : Vec g.row.T.Denot). get_or v.items c.place_of-block.result.1 c.remove-x.result) e)
