use Rattle.std.proofs.Common.{◌≡◌, ◌||◌, ◌-◌, true, false, length, drop, Some, sym, ap, ◌∙◌, rules, arith, le_refl}
use Rattle.std.proofs.lemmas.Grind.{common_steps}
use Rattle.syntect_yaml.specs.Node as node
use Rattle.syntect_yaml.specs.Node.{no_items, no_entries, push_item, push_entry, has_key, same_scalar, has_scalar}
use Rattle.syntect_yaml.specs.View.{view, items_view, entries_view}
use Rattle.std.specs.List.{prefix_len}
use Rattle.syntect_yaml.specs.Begin.{start_view}
use Rattle.syntect_yaml.specs.Lines.{is_space}
use Rattle.syntect_yaml.specs.Text.{place_of}
use Rattle.syntect_yaml.specs.Blocks.{found_map, begins_item, has_item, has_entry, items, entries, inline, block}
use Rattle.syntect_yaml.proofs.ViewLaws.{view-List, view-Map, push_item_view, push_entry_view}
use Rattle.syntect_yaml.proofs.KeyLaws.{known_key, new_key, has_key-push_entry}
use Rattle.syntect_yaml.proofs.FlowLaws.{fails_by}
use Rattle.syntect_yaml.proofs.BlockLaws.{item_dash, start_dash, value_below, value_lost, value_here, item_below, item_lost, item_here, items_none, items_end, items_more, entries_twice, entries_none, entries_end, entries_no_key, entries_more, block_shallow, block_list, block_map, block_part}
use Rattle.syntect_yaml.proofs.block.+block.Goals as goal

-- ---- values and items

pub value-returns-in-Some-next-clause-value : goal.value-returns-in-Some-next-clause-value
value-returns-in-Some-next-clause-value t c =
    rw (value_below (inline c.args.depth) (block c.args.depth) c.args.column c.args.text.now _ _ (sym c.in-Some.ensures.value) (sym c.in-Some-next.ensures.value), ← c.has_value-deeper.ensures) c.below.ensures.value

pub value-returns-in-None-next-clause-value : goal.value-returns-in-None-next-clause-value
value-returns-in-None-next-clause-value t c = value_lost (inline c.args.depth) (block c.args.depth) c.args.column c.args.text.now _ (sym c.in-Some.ensures.value) (sym c.in-None-next.ensures.value)

pub value-returns-in-None-clause-value : goal.value-returns-in-None-clause-value
value-returns-in-None-clause-value t c =
    rw (value_here (inline c.args.depth) (block c.args.depth) c.args.column c.args.text.now (sym c.in-None.ensures.value), ← ap (λ p. p.1) c.split_run.ensures.parts) c.inline.ensures.value

pub item-returns-in-Some-next-clause-value : goal.item-returns-in-Some-next-clause-value
item-returns-in-Some-next-clause-value t c =
    rw (item_below (inline c.args.depth) (block c.args.depth) c.args.column c.args.text.now _ _ (sym c.in-Some.ensures.value) (sym c.in-Some-next.ensures.value)) c.below.ensures.value

pub item-returns-in-None-next-clause-value : goal.item-returns-in-None-next-clause-value
item-returns-in-None-next-clause-value t c = item_lost (inline c.args.depth) (block c.args.depth) c.args.column c.args.text.now _ (sym c.in-Some.ensures.value) (sym c.in-None-next.ensures.value)

pub item-returns-in-None-clause-value : goal.item-returns-in-None-clause-value
item-returns-in-None-clause-value t c =
    let count : c.run_len-spaces.result ≡ prefix_len is_space c.args.text.now = grind (arith, common_steps) in
    rw (item_here (inline c.args.depth) (block c.args.depth) c.args.column c.args.text.now (sym c.in-None.ensures.value), ← ap (λ p. p.1) c.split_run.ensures.parts, ← count) c.block.ensures.value

-- ---- lists

pub items-items-init : goal.items-items-init
items-items-init t c = (search rules, le_refl _, λ n h. (n, h, ap (λ v. items (inline c.args.depth) (block c.args.depth) c.args.column n (items_view v) c.args.text.now) (sym c.new-found.ensures.items)))

pub items-returns-in-Err-clause-value : goal.items-returns-in-Err-clause-value
items-returns-in-Err-clause-value t c n h =
    let (m, room, same) = c.items.invariant.2 n h in
    fails_by _ _ _ (λ none. same ∙ items_none (inline c.args.depth) (block c.args.depth) c.args.column m _ c.items.rest.now (omega arith) none) c.in-Err.ensures.value

pub items-returns-then-not-has_item-clause-value : goal.items-returns-then-not-has_item-clause-value
items-returns-then-not-has_item-clause-value t c n h =
    let (m, room, same) = c.items.invariant.2 n h in
    let over : has_item c.args.column (place_of c.in-Ok.read.1) ≡ false = grind (arith, common_steps) in
    same ∙ items_end (inline c.args.depth) (block c.args.depth) c.args.column m _ c.items.rest.now _ _ (omega arith) c.in-Ok.ensures.value over
    ∙ ap (λ v. Some (v, place_of c.in-Ok.read.1)) (sym (ap items_view c.in_ok-push.ensures.items ∙ push_item_view c.items.found.items c.in-Ok.read.0))

pub items-skip-rest-requires-clause-there : goal.items-skip-rest-requires-clause-there
items-skip-rest-requires-clause-there t c =
    let on : has_item c.args.column (place_of c.in-Ok.read.1) ≡ true = grind (arith, common_steps) in
    let dash : begins_item c.in-Ok.read.1.rest.now ≡ true = grind (arith, common_steps) in
    omega (arith, item_dash c.in-Ok.read.1.rest.now dash)

pub items-skip-rest-requires-clause-ascii : goal.items-skip-rest-requires-clause-ascii
items-skip-rest-requires-clause-ascii t c =
    let on : has_item c.args.column (place_of c.in-Ok.read.1) ≡ true = grind (arith, common_steps) in
    let dash : begins_item c.in-Ok.read.1.rest.now ≡ true = grind (arith, common_steps) in
    omega (arith, item_dash c.in-Ok.read.1.rest.now dash)

pub items-items-preserved : goal.items-items-preserved
items-items-preserved t c =
    let l = c.items in
    let within = c.in-Ok.ensures.within in
    let shorter = c.skip-rest.ensures.shorter in (
      search rules,
      omega (arith, l.invariant.1),
      λ n h.
          let (m, room, same) = l.invariant.2 n h in
          let on : has_item c.args.column (place_of c.in-Ok.read.1) ≡ true = grind (arith, common_steps) in
          let turn = items_more (inline c.args.depth) (block c.args.depth) c.args.column m _ l.rest.now _ _ (omega arith) c.in-Ok.ensures.value on in (
            m - 1,
            omega arith,
            same ∙ turn ∙ ap (λ v. items (inline c.args.depth) (block c.args.depth) c.args.column (m - 1) v (drop 1 c.in-Ok.read.1.rest.now)) (sym (ap items_view c.in_ok-push.ensures.items ∙ push_item_view l.found.items c.in-Ok.read.0))
                ∙ ap (λ u. items (inline c.args.depth) (block c.args.depth) c.args.column (m - 1) (items_view c.push.new.self.items) u) (sym c.skip-rest.ensures.rest),
          ),
    )

-- ---- maps

pub entries-entries-init : goal.entries-entries-init
entries-entries-init t c = (search rules, le_refl _, λ q. ap (has_scalar q) c.new-keys.ensures.empty ∙ sym (ap (λ v. has_key q (entries_view v)) c.new-found.ensures.items), λ n h. (n, h, ap (λ v. entries (inline c.args.depth) (block c.args.depth) c.args.column n (entries_view v) c.args.first_key c.args.text.now) (sym c.new-found.ensures.items)))

pub entries-returns-then-not-is_new-clause-value : goal.entries-returns-then-not-is_new-clause-value
entries-returns-then-not-is_new-clause-value t c n h =
    let (m, room, same) = c.entries.invariant.3 n h in
    let twice : has_key c.entries.name (entries_view c.entries.found.items) ≡ true = sym (c.entries.invariant.2 c.entries.name) ∙ known_key _ _ c.in_ok-is_new.ensures.added c.if-not-is_new.true in
    same ∙ entries_twice (inline c.args.depth) (block c.args.depth) c.args.column m _ _ c.entries.rest.now (omega arith) twice

pub entries-returns-in-Err-clause-value : goal.entries-returns-in-Err-clause-value
entries-returns-in-Err-clause-value t c n h =
    let (m, room, same) = c.entries.invariant.3 n h in
    let once : has_key c.entries.name (entries_view c.entries.found.items) ≡ false = sym (c.entries.invariant.2 c.entries.name) ∙ new_key _ _ c.in_ok-is_new.ensures.added c.if-not-is_new.false in
    fails_by _ _ _ (λ none. same ∙ entries_none (inline c.args.depth) (block c.args.depth) c.args.column m _ _ c.entries.rest.now (omega arith) once none) c.in-Err.ensures.value

pub entries-returns-then-not-has_entry-clause-value : goal.entries-returns-then-not-has_entry-clause-value
entries-returns-then-not-has_entry-clause-value t c n h =
    let (m, room, same) = c.entries.invariant.3 n h in
    let once : has_key c.entries.name (entries_view c.entries.found.items) ≡ false = sym (c.entries.invariant.2 c.entries.name) ∙ new_key _ _ c.in_ok-is_new.ensures.added c.if-not-is_new.false in
    let over : has_entry c.args.column (place_of c.in-Ok.read.1) ≡ false = grind (arith, common_steps) in
    same ∙ entries_end (inline c.args.depth) (block c.args.depth) c.args.column m _ _ c.entries.rest.now _ _ (omega arith) once c.in-Ok.ensures.value over
    ∙ ap (λ v. Some (v, place_of c.in-Ok.read.1)) (sym (ap entries_view c.in_ok-push.ensures.items ∙ push_entry_view c.entries.found.items (c.entries.name, c.in-Ok.read.0)))

pub entries-returns-in-Err-key-clause-value : goal.entries-returns-in-Err-key-clause-value
entries-returns-in-Err-key-clause-value t c n h =
    let (m, room, same) = c.entries.invariant.3 n h in
    let once : has_key c.entries.name (entries_view c.entries.found.items) ≡ false = sym (c.entries.invariant.2 c.entries.name) ∙ new_key _ _ c.in_ok-is_new.ensures.added c.if-not-is_new.false in
    let on : has_entry c.args.column (place_of c.in-Ok.read.1) ≡ true = grind (arith, common_steps) in
    fails_by _ _ _ (λ none. same ∙ entries_no_key (inline c.args.depth) (block c.args.depth) c.args.column m _ _ c.entries.rest.now _ _ (omega arith) once c.in-Ok.ensures.value on none) c.in-Err-key.ensures.value

pub entries-entries-preserved : goal.entries-entries-preserved
entries-entries-preserved t c =
    let l = c.entries in
    let within = c.in-Ok.ensures.within in
    let shorter = c.in-Ok-key.ensures.shorter in (
      search rules,
      omega (arith, l.invariant.1),
      λ q.
          c.in_ok-is_new.ensures.updates q ∙ ap (λ b. same_scalar l.name q || b) (l.invariant.2 q) ∙ sym (has_key-push_entry q (entries_view l.found.items) l.name (view c.in-Ok.read.0))
          ∙ ap (has_key q) (sym (ap entries_view c.in_ok-push.ensures.items ∙ push_entry_view l.found.items (l.name, c.in-Ok.read.0))),
      λ n h.
          let (m, room, same) = l.invariant.3 n h in
          let once : has_key l.name (entries_view l.found.items) ≡ false = sym (l.invariant.2 l.name) ∙ new_key _ _ c.in_ok-is_new.ensures.added c.if-not-is_new.false in
          let on : has_entry c.args.column (place_of c.in-Ok.read.1) ≡ true = grind (arith, common_steps) in
          let turn = entries_more (inline c.args.depth) (block c.args.depth) c.args.column m _ _ l.rest.now _ _ _ _ (omega arith) once c.in-Ok.ensures.value on c.in-Ok-key.ensures.value in
          (m - 1, omega arith, same ∙ turn ∙ ap (λ v. entries (inline c.args.depth) (block c.args.depth) c.args.column (m - 1) v c.in-Ok-key.read.0 c.in-Ok-key.read.1.now) (sym (ap entries_view c.in_ok-push.ensures.items ∙ push_entry_view l.found.items (l.name, c.in-Ok.read.0)))),
    )

-- ---- nodes

pub block-returns-then-depth-eq0-clause-value : goal.block-returns-then-depth-eq0-clause-value
block-returns-then-depth-eq0-clause-value t c = rw (block_shallow c.args.depth c.args.least (place_of c.args.spot) c.if-depth-eq0.true) c.inline.ensures.value

pub block-skip-requires-clause-there : goal.block-skip-requires-clause-there
block-skip-requires-clause-there t c = omega (arith, start_dash c.args.spot.rest.now (sym c.in-Ok-Item.ensures.start ∙ ap start_view c.in-Ok-Item.field-0-is))

pub block-skip-requires-clause-ascii : goal.block-skip-requires-clause-ascii
block-skip-requires-clause-ascii t c = omega (arith, start_dash c.args.spot.rest.now (sym c.in-Ok-Item.ensures.start ∙ ap start_view c.in-Ok-Item.field-0-is))

pub block-returns-in-Ok-clause-value : goal.block-returns-in-Ok-clause-value
block-returns-in-Ok-clause-value t c =
    block_list c.args.depth c.args.least (place_of c.args.spot) (omega arith) (sym c.in-Ok-Item.ensures.start ∙ ap start_view c.in-Ok-Item.field-0-is)
    ∙ ap (λ u. found_map node.list (items (inline (c.args.depth - 1)) (block (c.args.depth - 1)) c.args.spot.column (length c.args.spot.rest.now) no_items u)) (sym c.skip.ensures.rest)
    ∙ ap (found_map node.list) (c.in-Ok.ensures.value (length c.args.spot.rest.now) c.skip.ensures.shorter) ∙ ap (λ v. Some (v, place_of c.in-Ok.below)) (sym (view-List c.in-Ok.items))

pub block-returns-in-Err-items-clause-value : goal.block-returns-in-Err-items-clause-value
block-returns-in-Err-items-clause-value t c =
    fails_by _ _ _ (λ none.
    block_list c.args.depth c.args.least (place_of c.args.spot) (omega arith) (sym c.in-Ok-Item.ensures.start ∙ ap start_view c.in-Ok-Item.field-0-is)
    ∙ ap (λ u. found_map node.list (items (inline (c.args.depth - 1)) (block (c.args.depth - 1)) c.args.spot.column (length c.args.spot.rest.now) no_items u)) (sym c.skip.ensures.rest)
    ∙ ap (found_map node.list) none)
    (c.in-Err-items.ensures.value (length c.args.spot.rest.now) c.skip.ensures.shorter)

pub block-returns-in-Ok-entries-clause-value : goal.block-returns-in-Ok-entries-clause-value
block-returns-in-Ok-entries-clause-value t c =
    block_map c.args.depth c.args.least (place_of c.args.spot) c.in-Ok-Entry.name c.in-Ok-Entry.rest.now (omega arith) (sym c.in-Ok-Entry.ensures.start ∙ ap start_view c.in-Ok-Entry.field-0-is)
    ∙ ap (found_map node.map) (c.in-Ok-entries.ensures.value (length c.args.spot.rest.now) (rw c.in-Ok-Entry.field-0-is at c.in-Ok-Entry.ensures.shorter)) ∙ ap (λ v. Some (v, place_of c.in-Ok-entries.below)) (sym (view-Map c.in-Ok-entries.entries))

pub block-returns-in-Err-entries-clause-value : goal.block-returns-in-Err-entries-clause-value
block-returns-in-Err-entries-clause-value t c =
    fails_by _ _ _ (λ none. block_map c.args.depth c.args.least (place_of c.args.spot) c.in-Ok-Entry.name c.in-Ok-Entry.rest.now (omega arith) (sym c.in-Ok-Entry.ensures.start ∙ ap start_view c.in-Ok-Entry.field-0-is) ∙ ap (found_map node.map) none)
    (c.in-Err-entries.ensures.value (length c.args.spot.rest.now) (rw c.in-Ok-Entry.field-0-is at c.in-Ok-Entry.ensures.shorter))

pub block-returns-in-Ok-Part-clause-value : goal.block-returns-in-Ok-Part-clause-value
block-returns-in-Ok-Part-clause-value t c = rw (block_part c.args.depth c.args.least (place_of c.args.spot) (omega arith) (sym c.in-Ok-Part.ensures.start ∙ ap start_view c.in-Ok-Part.field-0-is)) c.inline-in-Ok-Part.ensures.value
