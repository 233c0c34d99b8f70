use Rattle.std.proofs.Common.{◌≡◌, ◌||◌, ◌-◌, ◌==◌, true, false, length, Some, sym, ap, ◌∙◌, rules, arith, le_refl}
use Rattle.std.proofs.lemmas.Grind.{common_steps}
use Rattle.std.proofs.lemmas.Bool.Decides.{nat_tests}
use Rattle.syntect_yaml.specs.Node as node
use Rattle.syntect_yaml.specs.Node.{no_items, no_entries, has_key, same_scalar, has_scalar}
use Rattle.syntect_yaml.specs.View.{view, items_view, entries_view}
use Rattle.syntect_yaml.specs.Lines.{first}
use Rattle.syntect_yaml.specs.Flow.{read_map, items, entry_value, entries, flow}
use Rattle.syntect_yaml.proofs.ViewLaws.{view-Scalar, view-List, view-Map, push_item_view, push_entry_view}
use Rattle.syntect_yaml.proofs.KeyLaws.{known_key, new_key, has_key-push_entry}
use Rattle.syntect_yaml.proofs.FlowLaws.{fails_by, items_no_gap, items_end, items_no_value, items_no_end, items_more, entries_no_gap, entries_end, entries_no_key, entries_twice, entries_no_value, entries_no_end, entries_more, flow_list, flow_map, flow_scalar}
use Rattle.syntect_yaml.proofs.flow.+flow.Goals as goal

pub items-items-init : goal.items-items-init
items-items-init t c = (search rules, le_refl _, λ n h. (n, h, ap (λ v. items (flow c.args.depth) n (items_view v) c.args.text.now) (sym c.new-found.ensures.items)))

pub items-returns-in-Err-clause-value : goal.items-returns-in-Err-clause-value
items-returns-in-Err-clause-value t c n h =
    let (m, room, same) = c.items.invariant.2 n h in
    fails_by _ _ _ (λ none. same ∙ items_no_gap (flow c.args.depth) m _ c.items.rest.now (omega arith) none) c.in-Err.ensures.value

pub items-returns-then-first-eq93-clause-value : goal.items-returns-then-first-eq93-clause-value
items-returns-then-first-eq93-clause-value t c n h =
    let (m, room, same) = c.items.invariant.2 n h in
    let e : (first c.in-Ok.start.now == 93) ≡ true = grind (arith, nat_tests, common_steps) in
    same ∙ items_end (flow c.args.depth) m _ c.items.rest.now c.in-Ok.start.now (omega arith) c.in-Ok.ensures.value e ∙ ap (λ r. Some (items_view c.items.found.items, r)) (sym c.skip.ensures.rest)

pub items-returns-in-Err-flow-clause-value : goal.items-returns-in-Err-flow-clause-value
items-returns-in-Err-flow-clause-value t c n h =
    let (m, room, same) = c.items.invariant.2 n h in
    let e : (first c.in-Ok.start.now == 93) ≡ false = grind (arith, nat_tests, common_steps) in
    fails_by _ _ _ (λ none. same ∙ items_no_value (flow c.args.depth) m _ c.items.rest.now c.in-Ok.start.now (omega arith) c.in-Ok.ensures.value e none) c.in-Err-flow.ensures.value

pub items-returns-in-Err-after_part-clause-value : goal.items-returns-in-Err-after_part-clause-value
items-returns-in-Err-after_part-clause-value t c n h =
    let (m, room, same) = c.items.invariant.2 n h in
    let e : (first c.in-Ok.start.now == 93) ≡ false = grind (arith, nat_tests, common_steps) in
    fails_by _ _ _ (λ none. same ∙ items_no_end (flow c.args.depth) m _ c.items.rest.now c.in-Ok.start.now _ _ (omega arith) c.in-Ok.ensures.value e c.in-Ok-flow.ensures.value none) c.in-Err-after_part.ensures.value

pub items-items-preserved : goal.items-items-preserved
items-items-preserved t c =
    let l = c.items in
    let before = c.in-Ok.ensures.within in
    let shorter = c.in-Ok-flow.ensures.shorter in
    let within = c.in-Ok-after_part.ensures.within in (
      search rules,
      omega (arith, l.invariant.1),
      λ n h.
          let (m, room, same) = l.invariant.2 n h in
          let e : (first c.in-Ok.start.now == 93) ≡ false = grind (arith, nat_tests, common_steps) in
          let turn = items_more (flow c.args.depth) m _ l.rest.now c.in-Ok.start.now _ _ _ (omega arith) c.in-Ok.ensures.value e c.in-Ok-flow.ensures.value c.in-Ok-after_part.ensures.value in
          (m - 1, omega arith, same ∙ turn ∙ ap (λ v. items (flow c.args.depth) (m - 1) v c.in-Ok-after_part.behind.now) (sym (ap items_view c.in_ok-push.ensures.items ∙ push_item_view l.found.items c.in-Ok-flow.read.0))),
    )

pub entries-entries-init : goal.entries-entries-init
entries-entries-init t c = (search rules, le_refl _, λ q. ap (has_scalar q) c.new-keys.ensures.empty ∙ sym (ap (λ v. has_key q (entries_view v)) c.new-found.ensures.items), λ n h. (n, h, ap (λ v. entries (flow c.args.depth) n (entries_view v) c.args.text.now) (sym c.new-found.ensures.items)))

pub entries-returns-in-Err-clause-value : goal.entries-returns-in-Err-clause-value
entries-returns-in-Err-clause-value t c n h =
    let (m, room, same) = c.entries.invariant.3 n h in
    fails_by _ _ _ (λ none. same ∙ entries_no_gap (flow c.args.depth) m _ c.entries.rest.now (omega arith) none) c.in-Err.ensures.value

pub entries-returns-then-first-eq125-clause-value : goal.entries-returns-then-first-eq125-clause-value
entries-returns-then-first-eq125-clause-value t c n h =
    let (m, room, same) = c.entries.invariant.3 n h in
    let e : (first c.in-Ok.start.now == 125) ≡ true = grind (arith, nat_tests, common_steps) in
    same ∙ entries_end (flow c.args.depth) m _ c.entries.rest.now c.in-Ok.start.now (omega arith) c.in-Ok.ensures.value e ∙ ap (λ r. Some (entries_view c.entries.found.items, r)) (sym c.skip.ensures.rest)

pub entries-returns-in-Err-key-clause-value : goal.entries-returns-in-Err-key-clause-value
entries-returns-in-Err-key-clause-value t c n h =
    let (m, room, same) = c.entries.invariant.3 n h in
    let e : (first c.in-Ok.start.now == 125) ≡ false = grind (arith, nat_tests, common_steps) in
    fails_by _ _ _ (λ none. same ∙ entries_no_key (flow c.args.depth) m _ c.entries.rest.now c.in-Ok.start.now (omega arith) c.in-Ok.ensures.value e none) c.in-Err-key.ensures.value

pub entries-returns-then-not-is_new-clause-value : goal.entries-returns-then-not-is_new-clause-value
entries-returns-then-not-is_new-clause-value t c n h =
    let (m, room, same) = c.entries.invariant.3 n h in
    let e : (first c.in-Ok.start.now == 125) ≡ false = grind (arith, nat_tests, common_steps) in
    let twice : has_key c.in-Ok-key.read.0 (entries_view c.entries.found.items) ≡ true = sym (c.entries.invariant.2 c.in-Ok-key.read.0) ∙ known_key _ _ c.in_ok-is_new.ensures.added c.if-not-is_new.true in
    same ∙ entries_twice (flow c.args.depth) m _ c.entries.rest.now c.in-Ok.start.now _ _ (omega arith) c.in-Ok.ensures.value e c.in-Ok-key.ensures.value twice

pub entries-returns-in-Err-entry_value-clause-value : goal.entries-returns-in-Err-entry_value-clause-value
entries-returns-in-Err-entry_value-clause-value t c n h =
    let (m, room, same) = c.entries.invariant.3 n h in
    let e : (first c.in-Ok.start.now == 125) ≡ false = grind (arith, nat_tests, common_steps) in
    let once : has_key c.in-Ok-key.read.0 (entries_view c.entries.found.items) ≡ false = sym (c.entries.invariant.2 c.in-Ok-key.read.0) ∙ new_key _ _ c.in_ok-is_new.ensures.added c.if-not-is_new.false in
    fails_by _ _ _ (λ none. same ∙ entries_no_value (flow c.args.depth) m _ c.entries.rest.now c.in-Ok.start.now _ _ (omega arith) c.in-Ok.ensures.value e c.in-Ok-key.ensures.value once none) c.in-Err-entry_value.ensures.value

pub entries-returns-in-Err-after_part-clause-value : goal.entries-returns-in-Err-after_part-clause-value
entries-returns-in-Err-after_part-clause-value t c n h =
    let (m, room, same) = c.entries.invariant.3 n h in
    let e : (first c.in-Ok.start.now == 125) ≡ false = grind (arith, nat_tests, common_steps) in
    let once : has_key c.in-Ok-key.read.0 (entries_view c.entries.found.items) ≡ false = sym (c.entries.invariant.2 c.in-Ok-key.read.0) ∙ new_key _ _ c.in_ok-is_new.ensures.added c.if-not-is_new.false in
    fails_by _ _ _ (λ none. same ∙ entries_no_end (flow c.args.depth) m _ c.entries.rest.now c.in-Ok.start.now _ _ _ _ (omega arith) c.in-Ok.ensures.value e c.in-Ok-key.ensures.value once c.in-Ok-entry_value.ensures.value none) c.in-Err-after_part.ensures.value

pub entries-entries-preserved : goal.entries-entries-preserved
entries-entries-preserved t c =
    let l = c.entries in
    let before = c.in-Ok.ensures.within in
    let shorter = c.in-Ok-key.ensures.shorter in
    let between = c.in-Ok-entry_value.ensures.within in
    let within = c.in-Ok-after_part.ensures.within in (
      search rules,
      omega (arith, l.invariant.1),
      λ q.
          c.in_ok-is_new.ensures.updates q ∙ ap (λ b. same_scalar c.in-Ok-key.read.0 q || b) (l.invariant.2 q) ∙ sym (has_key-push_entry q (entries_view l.found.items) c.in-Ok-key.read.0 (view c.in-Ok-entry_value.read.0))
          ∙ ap (has_key q) (sym (ap entries_view c.in_ok-push.ensures.items ∙ push_entry_view l.found.items (c.in-Ok-key.read.0, c.in-Ok-entry_value.read.0))),
      λ n h.
          let (m, room, same) = l.invariant.3 n h in
          let e : (first c.in-Ok.start.now == 125) ≡ false = grind (arith, nat_tests, common_steps) in
          let once : has_key c.in-Ok-key.read.0 (entries_view l.found.items) ≡ false = sym (l.invariant.2 c.in-Ok-key.read.0) ∙ new_key _ _ c.in_ok-is_new.ensures.added c.if-not-is_new.false in
          let turn = entries_more (flow c.args.depth) m _ l.rest.now c.in-Ok.start.now _ _ _ _ _ (omega arith) c.in-Ok.ensures.value e c.in-Ok-key.ensures.value once c.in-Ok-entry_value.ensures.value c.in-Ok-after_part.ensures.value in
          (m - 1, omega arith, same ∙ turn ∙ ap (λ v. entries (flow c.args.depth) (m - 1) v c.in-Ok-after_part.behind.now) (sym (ap entries_view c.in_ok-push.ensures.items ∙ push_entry_view l.found.items (c.in-Ok-key.read.0, c.in-Ok-entry_value.read.0)))),
    )

pub entry_value-returns-in-Err-clause-value : goal.entry_value-returns-in-Err-clause-value
unfolding entry_value
entry_value-returns-in-Err-clause-value t c = fails_by _ _ _ (λ none. rw none) c.in-Err.ensures.value

pub entry_value-returns-clause-value : goal.entry_value-returns-clause-value
unfolding entry_value
entry_value-returns-clause-value t c = rw c.in-Ok.ensures.value c.flow.ensures.value

pub flow-returns-in-Ok-clause-value : goal.flow-returns-in-Ok-clause-value
flow-returns-in-Ok-clause-value t c =
    let (some, mark, is) = flow_list c.args.depth c.args.text.now (sym c.in-List.ensures) in
    is ∙ ap (λ u. read_map node.list (items (flow (c.args.depth - 1)) (length c.args.text.now) no_items u)) (sym c.skip.ensures.rest)
    ∙ ap (read_map node.list) (c.in-Ok.ensures.value (length c.args.text.now) c.skip.ensures.shorter) ∙ ap (λ v. Some (v, c.in-Ok.rest.now)) (sym (view-List c.in-Ok.items))

pub flow-returns-in-Err-clause-value : goal.flow-returns-in-Err-clause-value
flow-returns-in-Err-clause-value t c =
    let (some, mark, is) = flow_list c.args.depth c.args.text.now (sym c.in-List.ensures) in
    fails_by _ _ _ (λ none. is ∙ ap (λ u. read_map node.list (items (flow (c.args.depth - 1)) (length c.args.text.now) no_items u)) (sym c.skip.ensures.rest) ∙ ap (read_map node.list) none)
    (c.in-Err.ensures.value (length c.args.text.now) c.skip.ensures.shorter)

pub flow-returns-in-Ok-entries-clause-value : goal.flow-returns-in-Ok-entries-clause-value
flow-returns-in-Ok-entries-clause-value t c =
    let (some, mark, is) = flow_map c.args.depth c.args.text.now (sym c.in-Map.ensures) in
    is ∙ ap (λ u. read_map node.map (entries (flow (c.args.depth - 1)) (length c.args.text.now) no_entries u)) (sym c.skip-in-Map.ensures.rest)
    ∙ ap (read_map node.map) (c.in-Ok-entries.ensures.value (length c.args.text.now) c.skip-in-Map.ensures.shorter) ∙ ap (λ v. Some (v, c.in-Ok-entries.rest.now)) (sym (view-Map c.in-Ok-entries.entries))

pub flow-returns-in-Err-entries-clause-value : goal.flow-returns-in-Err-entries-clause-value
flow-returns-in-Err-entries-clause-value t c =
    let (some, mark, is) = flow_map c.args.depth c.args.text.now (sym c.in-Map.ensures) in
    fails_by _ _ _ (λ none. is ∙ ap (λ u. read_map node.map (entries (flow (c.args.depth - 1)) (length c.args.text.now) no_entries u)) (sym c.skip-in-Map.ensures.rest) ∙ ap (read_map node.map) none)
    (c.in-Err-entries.ensures.value (length c.args.text.now) c.skip-in-Map.ensures.shorter)

pub flow-returns-in-Ok-scalar-clause-value : goal.flow-returns-in-Ok-scalar-clause-value
flow-returns-in-Ok-scalar-clause-value t c =
    flow_scalar c.args.depth c.args.text.now (sym c.in-Nothing.ensures) ∙ ap (read_map node.scalar) c.in-Ok-scalar.ensures.value ∙ ap (λ v. Some (v, c.in-Ok-scalar.rest.now)) (sym (view-Scalar c.in-Ok-scalar.scalar))

pub flow-returns-in-Err-scalar-clause-value : goal.flow-returns-in-Err-scalar-clause-value
flow-returns-in-Err-scalar-clause-value t c =
    fails_by _ _ _ (λ none. flow_scalar c.args.depth c.args.text.now (sym c.in-Nothing.ensures) ∙ ap (read_map node.scalar) none) c.in-Err-scalar.ensures.value
