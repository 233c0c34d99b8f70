use Rattle.std.proofs.Common.{refl, inl, inr, rules}
use Rattle.syntect_pattern_plan.specs.syntect_pattern_table.declared.node.Node.{Node}
use Rattle.syntect_pattern_plan.proofs.SpeltLaws.{IsCopy, copy-ahead, copy-alternation, copy-atomic, copy-behind, copy-class, copy-group, copy-is, copy-leaf, copy-repeat, copy-sequence, copy-text}
use Rattle.syntect_pattern_plan.proofs.spelt.copy_of.Goals as goal
use Rattle.syntect_pattern_plan.proofs.spelt.copy_of.Goals.{in-Char, in-Class+in_ok-copy-in-Class, in-Anchor, in-Same, in-Sequence, in-Alternation, in-Repeat, in-Group, in-Atomic, in-Ahead, in-Behind, in-Nothing}

pub returns : goal.returns
returns c =
    let places = c.args.places.now in
    let copy : IsCopy places c.args.node.now c.match-node.result =
    elim c.match-node.branch [
      | in-Char w ↦ copy-is places _ _ _ _ (copy-leaf places (Node.Char w.in-Char.wanted) refl (λ k. refl) (λ ts us. refl)) w.in-Char.is w.result-is
      | in-Class+in_ok-copy-in-Class w ↦ copy-is places _ _ _ _ (copy-class places _ _ w.in_ok-copy-in-Class.ensures) w.in-Class.is w.result-is
      | in-Anchor w ↦ copy-is places _ _ _ _ (copy-leaf places (Node.Anchor w.in-Anchor.anchor) refl (λ k. refl) (λ ts us. refl)) w.in-Anchor.is w.result-is
      | in-Same w ↦ copy-is places _ _ _ _ (copy-leaf places (Node.Same w.in-Same.fold w.in-Same.group) refl (λ k. refl) (λ ts us. refl)) w.in-Same.is w.result-is
      | in-Sequence w ↦ copy-is places _ _ _ _ (copy-sequence places _ _) w.in-Sequence.is (search rules)
      | in-Alternation w ↦ copy-is places _ _ _ _ (copy-alternation places _ _) w.in-Alternation.is (search rules)
      | in-Repeat w ↦ copy-is places _ _ _ _ (copy-repeat places _ _ _ _) w.in-Repeat.is (search rules)
      | in-Group w ↦ copy-is places _ _ _ _ (copy-group places _ _) w.in-Group.is (search rules)
      | in-Atomic w ↦ copy-is places _ _ _ _ (copy-atomic places _) w.in-Atomic.is (search rules)
      | in-Ahead w ↦ copy-is places _ _ _ _ (copy-ahead places _ _) w.in-Ahead.is (search rules)
      | in-Behind w ↦ copy-is places _ _ _ _ (copy-behind places _ _) w.in-Behind.is (search rules)
      | in-Nothing w ↦ elim w.in-Nothing.is [
        | inl e ↦ copy-is places _ _ _ _ (copy-leaf places Node.Nothing refl (λ k. refl) (λ ts us. refl)) e w.result-is
        | inr e ↦ copy-is places _ _ _ _ (copy-text places _ _) e.2 w.result-is
      ]
    ] in
    record { spelt = copy.spelt; before = copy.before; tree = copy.tree }
