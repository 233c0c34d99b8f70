use Rattle.std.proofs.Common.{◌≡◌, ℕ, List, None, true, length, get_or, nat_lt, sym, subst, ◌∙◌, ap}
use Rattle.std.proofs.lemmas.Bool.{and_parts, ltb-true}
use Rattle.syntect_pattern.specs.Trees.{nothing}
use Rattle.syntect_pattern_table.specs.Table.{node_tree, parts_before}
use Rattle.syntect_pattern.specs.Letters.{letters_tree}
use Rattle.syntect_pattern_table.specs.Lengths.{HasLengths}
use Rattle.syntect_pattern_table.specs.declared.lengths.Lengths.{Lengths}
use Rattle.syntect_pattern_table.specs.declared.node.Node.{Node}
use Rattle.syntect_pattern_table.proofs.LengthLaws.{lengths-group, lengths-atomic}
use Rattle.syntect_pattern_table.proofs.lengths.lengths_of.Goals as goal

pub returns-in-Same : goal.returns-in-Same
returns-in-Same c = λ ts are. c.any_number.ensures _

pub returns-in-Sequence : goal.returns-in-Sequence
returns-in-Sequence c = λ ts are.
    let a : ℕ = c.in-Sequence.first in
    let b : ℕ = c.in-Sequence.second in
    let n : ℕ = length c.args.before.now in
    let p = and_parts (nat_lt a n) (nat_lt b n) (ap (parts_before n) (sym c.in-Sequence.is) ∙ c.requires) in
    subst (λ (m : Node). HasLengths (node_tree ts m) c.in_sequence-in-Sequence.result) (sym c.in-Sequence.is)
    (c.in_sequence-in-Sequence.ensures (get_or ts a nothing) (get_or ts b nothing) (are a _ (ltb-true a n p.0)) (are b _ (ltb-true b n p.1)))

pub returns-in-Alternation : goal.returns-in-Alternation
returns-in-Alternation c = λ ts are.
    let a : ℕ = c.in-Alternation.first in
    let b : ℕ = c.in-Alternation.second in
    let n : ℕ = length c.args.before.now in
    let p = and_parts (nat_lt a n) (nat_lt b n) (ap (parts_before n) (sym c.in-Alternation.is) ∙ c.requires) in
    subst (λ (m : Node). HasLengths (node_tree ts m) c.one_of_two.result) (sym c.in-Alternation.is)
    (c.one_of_two.ensures (get_or ts a nothing) (get_or ts b nothing) (are a _ (ltb-true a n p.0)) (are b _ (ltb-true b n p.1)))

pub returns-in-Repeat : goal.returns-in-Repeat
returns-in-Repeat c = λ ts are.
    let a : ℕ = c.in-Repeat.body in
    let n : ℕ = length c.args.before.now in
    let p : nat_lt a n ≡ true = ap (parts_before n) (sym c.in-Repeat.is) ∙ c.requires in
    subst (λ (m : Node). HasLengths (node_tree ts m) c.in_loop.result) (sym c.in-Repeat.is)
    (c.in_loop.ensures (get_or ts a nothing) _ (are a _ (ltb-true a n p)))

pub returns-in-Group : goal.returns-in-Group
returns-in-Group c = λ ts are.
    let a : ℕ = c.in-Group.body in
    let n : ℕ = length c.args.before.now in
    let p : nat_lt a n ≡ true = ap (parts_before n) (sym c.in-Group.is) ∙ c.requires in
    let unknown : Lengths = record { least = 0; most = None } in
    subst (λ (m : Node). HasLengths (node_tree ts m) (get_or c.args.before.now a unknown)) (sym c.in-Group.is)
    (lengths-group c.in-Group.number (get_or ts a nothing) (get_or c.args.before.now a unknown) (are a unknown (ltb-true a n p)))

pub returns-in-Atomic : goal.returns-in-Atomic
returns-in-Atomic c = λ ts are.
    let a : ℕ = c.in-Atomic.body in
    let n : ℕ = length c.args.before.now in
    let p : nat_lt a n ≡ true = ap (parts_before n) (sym c.in-Atomic.is) ∙ c.requires in
    let unknown : Lengths = record { least = 0; most = None } in
    subst (λ (m : Node). HasLengths (node_tree ts m) (get_or c.args.before.now a unknown)) (sym c.in-Atomic.is)
    (lengths-atomic (get_or ts a nothing) (get_or c.args.before.now a unknown) (are a unknown (ltb-true a n p)))

pub returns-in-Text : goal.returns-in-Text
returns-in-Text c = λ ts are.
    let a : ℕ = c.in-Text.rest in
    let n : ℕ = length c.args.before.now in
    let p : nat_lt a n ≡ true = ap (parts_before n) (sym c.in-Text.is) ∙ c.requires in
    let l = c.in-Text.letters in
    subst (λ (m : Node). HasLengths (node_tree ts m) c.in_sequence.result) (sym c.in-Text.is)
    (c.in_sequence.ensures _ _ c.lengths_of_letter.ensures
    (subst (λ (cs : List ℕ). HasLengths (letters_tree l.fold cs (get_or ts a nothing)) c.before_rest.result) c.others.ensures
    (c.before_rest.ensures (get_or ts a nothing) (are a _ (ltb-true a n p)))))
