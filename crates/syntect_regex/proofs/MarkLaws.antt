-- Marks of nodes and groups, which tell whether they are met, and if so whether within lookarounds.
use Rattle.std.proofs.Common.{◌≡◌, ◌<◌, ◌≤◌, ◌≢◌, ◌++◌, [], ◌∷◌, inl, inr, length-append, arith, ℕ, zero, suc, ◌+◌, ◌&&◌, ◌||◌, ◌==◌, nat_lt, Bool, true, false, List, length, get_or, refl, sym, ◌∙◌, ap, Option, Some, None, ne_eqb, eq-eqb, subst, set, replicate, get_or-set_same, get_or-set_other, length-set, below_more}
use Rattle.std.specs.Prelude.{if◌then◌else◌}
use Rattle.std.proofs.lemmas.List.{get_or_past, get_or_append_left, get_or-replicate, length-replicate}
use Rattle.std.proofs.Math.Seq.{get_or-append_seam}
use Rattle.std.proofs.lemmas.Bool.{cases_lt, cases_eq, ltb-true}
use Rattle.std.proofs.lemmas.Bool.{and_parts}
use Rattle.syntect_regex.specs.syntect_pattern.Trees.{Tree, nothing, one_of, anchor, same, seq, alt, repeat, group, atomic, ahead, behind, has_group, in_look, group_in_look}
use Rattle.syntect_regex.specs.syntect_pattern_table.Table.{IsOrdered, node_tree, parts_before, trees}
use Rattle.syntect_regex.proofs.syntect_pattern_table_proofs.BuilderLaws.{length-trees}
use Rattle.syntect_regex.proofs.syntect_pattern_table_proofs.TableLaws.{get_or-trees}
use Rattle.syntect_regex.specs.Looks.{AreLooks, NoGroupBefore, is_group, joined, looked_at, met_in, met_before, marked, passed_on, own_mark}
use Rattle.syntect_regex.specs.syntect_pattern.Letters.{letters_of, letters_tree}
use Rattle.syntect_regex.specs.syntect_pattern_table.declared.node.Node.{Node}

-- -- Two marks

or_comm : (a b : Bool) → (a || b) ≡ (b || a)
or_comm true true = refl
or_comm true false = refl
or_comm false true = refl
or_comm false false = refl

or_assoc : (a b c : Bool) → ((a || b) || c) ≡ (a || (b || c))
or_assoc true b c = refl
or_assoc false b c = refl

pub joined-none : (a : Option Bool) → joined a None ≡ a
joined-none None = refl
joined-none (Some a) = refl

joined-comm : (a b : Option Bool) → joined a b ≡ joined b a
joined-comm None b = sym (joined-none b)
joined-comm (Some a) None = refl
joined-comm (Some a) (Some b) = ap Some (or_comm a b)

pub joined-assoc : (a b c : Option Bool) → joined (joined a b) c ≡ joined a (joined b c)
joined-assoc None b c = refl
joined-assoc (Some a) None c = refl
joined-assoc (Some a) (Some b) None = refl
joined-assoc (Some a) (Some b) (Some c) = ap Some (or_assoc a b c)

-- the second of three comes first
joined-second : (a b c : Option Bool) → joined a (joined b c) ≡ joined b (joined a c)
joined-second a b c = sym (joined-assoc a b c) ∙ ap (λ x. joined x c) (joined-comm a b) ∙ joined-assoc b a c

joined-both : (a b c d : Option Bool) → joined (joined a b) (joined c d) ≡ joined (joined a c) (joined b d)
joined-both a b c d = joined-assoc a b (joined c d) ∙ ap (joined a) (joined-second b c d) ∙ sym (joined-assoc a c (joined b d))

looked-joined : (a b : Option Bool) → looked_at (joined a b) ≡ joined (looked_at a) (looked_at b)
looked-joined None b = refl
looked-joined (Some a) None = refl
looked-joined (Some a) (Some b) = refl

-- the mark of what was not met
abbrev pub unmet : Option Bool
unmet = None

-- -- A tree with two marks

if-joined : (e : Bool) (l m : Option Bool) → (if e then joined l m else None) ≡ joined (if e then l else None) (if e then m else None)
if-joined true l m = refl
if-joined false l m = refl

if-none : (e : Bool) (m : Option Bool) → m ≡ None → (if e then m else None) ≡ None
if-none true m h = h
if-none false m h = refl

-- letters have no mark
met-letters : (fold : Bool) (cs : List ℕ) (m : Option Bool) (t : Tree) (n : ℕ) → met_in m (letters_tree fold cs t) n ≡ met_in m t n
met-letters fold [] m t n = refl
met-letters fold (c ∷ cs) m t n = met-letters fold cs m t n

met-none : (t : Tree) (n : ℕ) → met_in None t n ≡ None
met-none nothing n = refl
met-none (one_of a) n = refl
met-none (anchor a) n = refl
met-none (same fold k) n = refl
met-none (seq a b) n = ap (λ x. joined x (met_in None b n)) (met-none a n) ∙ met-none b n
met-none (alt a b) n = ap (λ x. joined x (met_in None b n)) (met-none a n) ∙ met-none b n
met-none (repeat greedy least most a) n = met-none a n
met-none (group k a) n = ap (λ x. joined x (met_in None a n)) (if-none (k == n) None refl) ∙ met-none a n
met-none (atomic a) n = met-none a n
met-none (ahead negated a) n = met-none a n
met-none (behind negated a) n = met-none a n

both_met : (a b c d e f : Option Bool) → a ≡ joined c d → b ≡ joined e f → joined a b ≡ joined (joined c e) (joined d f)
both_met a b c d e f p q = ap (λ x. joined x b) p ∙ ap (joined (joined c d)) q ∙ joined-both c d e f

met-joined : (l m : Option Bool) (t : Tree) (n : ℕ) → met_in (joined l m) t n ≡ joined (met_in l t n) (met_in m t n)
met-joined l m nothing n = refl
met-joined l m (one_of a) n = refl
met-joined l m (anchor a) n = refl
met-joined l m (same fold k) n = refl
met-joined l m (seq a b) n = both_met _ _ (met_in l a n) (met_in m a n) (met_in l b n) (met_in m b n) (met-joined l m a n) (met-joined l m b n)
met-joined l m (alt a b) n = both_met _ _ (met_in l a n) (met_in m a n) (met_in l b n) (met_in m b n) (met-joined l m a n) (met-joined l m b n)
met-joined l m (repeat greedy least most a) n = met-joined l m a n
met-joined l m (group k a) n = both_met _ _ (if k == n then l else None) (if k == n then m else None) (met_in l a n) (met_in m a n) (if-joined (k == n) l m) (met-joined l m a n)
met-joined l m (atomic a) n = met-joined l m a n
met-joined l m (ahead negated a) n = ap (λ x. met_in x a n) (looked-joined l m) ∙ met-joined (looked_at l) (looked_at m) a n
met-joined l m (behind negated a) n = ap (λ x. met_in x a n) (looked-joined l m) ∙ met-joined (looked_at l) (looked_at m) a n

-- -- What the mark of a group tells

or_false : (a b : Bool) → (a || b) ≡ false → (a ≡ false) × (b ≡ false)
or_false true b e = cc
or_false false b e = (refl, e)

both_false : (a b c d : Bool) → (a || b) ≡ false → (a ≡ false → c ≡ false) → (b ≡ false → d ≡ false) → (c || d) ≡ false
both_false a b c d e f g = let p = or_false a b e in ap (λ x. x || d) (f p.0) ∙ g p.1

and_false : (look e : Bool) → e ≡ false → (look && e) ≡ false
and_false true e h = h
and_false false e h = refl

-- a group that is not there is in no lookaround
absent : (look : Bool) (t : Tree) (n : ℕ) → has_group t n ≡ false → in_look look t n ≡ false
absent look nothing n e = refl
absent look (one_of a) n e = refl
absent look (anchor a) n e = refl
absent look (same fold k) n e = refl
absent look (seq a b) n e = both_false (has_group a n) (has_group b n) (in_look look a n) (in_look look b n) e (absent look a n) (absent look b n)
absent look (alt a b) n e = both_false (has_group a n) (has_group b n) (in_look look a n) (in_look look b n) e (absent look a n) (absent look b n)
absent look (repeat greedy least most a) n e = absent look a n e
absent look (group k a) n e = both_false (k == n) (has_group a n) (look && k == n) (in_look look a n) e (and_false look (k == n)) (absent look a n)
absent look (atomic a) n e = absent look a n e
absent look (ahead negated a) n e = absent true a n e
absent look (behind negated a) n e = absent true a n e

tells-both : (a b c d : Bool) → (a ≡ false → c ≡ false) → (b ≡ false → d ≡ false) → joined (if a then Some c else None) (if b then Some d else None) ≡ (if a || b then Some (c || d) else None)
tells-both true true c d f g = refl
tells-both true false c d f g = ap Some (or_comm false c ∙ ap (λ x. c || x) (sym (g refl)))
tells-both false true c d f g = ap (λ x. Some (x || d)) (sym (f refl))
tells-both false false c d f g = refl

own-tells : (e look : Bool) → (if e then Some look else None) ≡ (if e then Some (look && e) else None)
own-tells true true = refl
own-tells true false = refl
own-tells false look = refl

met-tells : (look : Bool) (t : Tree) (n : ℕ) → met_in (Some look) t n ≡ (if has_group t n then Some (in_look look t n) else None)
met-tells look nothing n = refl
met-tells look (one_of a) n = refl
met-tells look (anchor a) n = refl
met-tells look (same fold k) n = refl
met-tells look (seq a b) n =
    ap (λ x. joined x (met_in (Some look) b n)) (met-tells look a n) ∙ ap (joined (if has_group a n then Some (in_look look a n) else None)) (met-tells look b n)
    ∙ tells-both (has_group a n) (has_group b n) (in_look look a n) (in_look look b n) (absent look a n) (absent look b n)
met-tells look (alt a b) n =
    ap (λ x. joined x (met_in (Some look) b n)) (met-tells look a n) ∙ ap (joined (if has_group a n then Some (in_look look a n) else None)) (met-tells look b n)
    ∙ tells-both (has_group a n) (has_group b n) (in_look look a n) (in_look look b n) (absent look a n) (absent look b n)
met-tells look (repeat greedy least most a) n = met-tells look a n
met-tells look (group k a) n =
    ap (λ x. joined x (met_in (Some look) a n)) (own-tells (k == n) look) ∙ ap (joined (if k == n then Some (look && k == n) else None)) (met-tells look a n)
    ∙ tells-both (k == n) (has_group a n) (look && k == n) (in_look look a n) (and_false look (k == n)) (absent look a n)
met-tells look (atomic a) n = met-tells look a n
met-tells look (ahead negated a) n = met-tells true a n
met-tells look (behind negated a) n = met-tells true a n

-- the mark of a group but the whole match, if the whole match was met outside of lookarounds
pub met-whole : (tree : Tree) (n : ℕ) → met_in (Some false) (group 0 tree) (suc n) ≡ group_in_look tree (suc n)
met-whole tree n =
    ap (λ (e : Bool). joined (if e then Some false else None) (met_in (Some false) tree (suc n))) (ne_eqb 0 (suc n) (λ e. omega arith))
    ∙ met-tells false tree (suc n)

-- -- The marks of a table

module _ (ts : List Tree) (n : ℕ) where
  before-past : (marks : List (Option Bool)) (k a : ℕ) (m : Option Bool) → k ≤ a → met_before (set marks a m) ts k n ≡ met_before marks ts k n
  before-past marks zero a m l = refl
  before-past marks (suc k) a m l =
      let other : k ≢ a = λ e. omega arith in
      ap (λ x. joined (met_in x (get_or ts k nothing) n) (met_before (set marks a m) ts k n)) (get_or-set_other marks a k m None other)
      ∙ ap (joined (met_in (get_or marks k None) (get_or ts k nothing) n)) (before-past marks k a m (omega arith))

  met_here : (marks : List (Option Bool)) (k : ℕ) (within : Bool) → k < length marks
      → met_before (marked marks k within) ts (suc k) n ≡ joined (met_in (Some within) (get_or ts k nothing) n) (met_before marks ts (suc k) n)
  met_here marks k within h =
      let old : Option Bool = get_or marks k None in
      let new : Option Bool = joined old (Some within) in
      let t : Tree = get_or ts k nothing in
      let rest : Option Bool = met_before marks ts k n in
      ap (λ x. joined (met_in x t n) (met_before (set marks k new) ts k n)) (get_or-set_same marks k new None h)
      ∙ ap (joined (met_in new t n)) (before-past marks k k new (omega arith))
      ∙ ap (λ x. joined x rest) (met-joined old (Some within) t n ∙ joined-comm (met_in old t n) (met_in (Some within) t n))
      ∙ joined-assoc (met_in (Some within) t n) (met_in old t n) rest

  pub before-marked : (marks : List (Option Bool)) (k a : ℕ) (within : Bool) → a < k → a < length marks
      → met_before (marked marks a within) ts k n ≡ joined (met_in (Some within) (get_or ts a nothing) n) (met_before marks ts k n)
  before-marked marks zero a within l h = absurd (omega arith)
  before-marked marks (suc k) a within l h = elim (cases_eq k a) [
    | inl e ↦
        subst (λ (j : ℕ). met_before (marked marks j within) ts (suc k) n ≡ joined (met_in (Some within) (get_or ts j nothing) n) (met_before marks ts (suc k) n)) e
        (met_here marks k within (omega arith))
    | inr e ↦
        let new : Option Bool = joined (get_or marks a None) (Some within) in
        let t : Tree = get_or ts k nothing in
        let met : Option Bool = met_in (Some within) (get_or ts a nothing) n in
        ap (λ x. joined (met_in x t n) (met_before (set marks a new) ts k n)) (get_or-set_other marks a k new None e)
        ∙ ap (joined (met_in (get_or marks k None) t n)) (before-marked marks k a within (let ne : k ≢ a = e in omega arith) h)
        ∙ joined-second (met_in (get_or marks k None) t n) met (met_before marks ts k n)
  ]

  two_marked : (marks : List (Option Bool)) (k a b : ℕ) (within : Bool) → a < k → b < k → k ≤ length marks
      → met_before (marked (marked marks a within) b within) ts k n
      ≡ joined (joined (met_in (Some within) (get_or ts a nothing) n) (met_in (Some within) (get_or ts b nothing) n)) (met_before marks ts k n)
  two_marked marks k a b within l r h =
      let m : Option Bool = met_in (Some within) (get_or ts a nothing) n in
      let o : Option Bool = met_in (Some within) (get_or ts b nothing) n in
      before-marked (marked marks a within) k b within r (omega (arith, length-set marks a (joined (get_or marks a None) (Some within))))
      ∙ ap (joined o) (before-marked marks k a within l (omega arith))
      ∙ joined-second o m (met_before marks ts k n)
      ∙ sym (joined-assoc m o (met_before marks ts k n))

  -- the mark of a node is passed on
  passed : (node : Node) (marks : List (Option Bool)) (k : ℕ) (within : Bool) → parts_before k node ≡ true → k ≤ length marks
      → joined (own_mark within node n) (met_before (passed_on marks within node) ts k n) ≡ joined (met_in (Some within) (node_tree ts node) n) (met_before marks ts k n)
  passed Node.Nothing marks k within b h = refl
  passed (Node.Char c) marks k within b h = refl
  passed (Node.Class c) marks k within b h = refl
  passed (Node.Anchor a) marks k within b h = refl
  passed (Node.Same fold m) marks k within b h = refl
  passed (Node.Text l x) marks k within b h =
      let p = ltb-true x k b in
      before-marked marks k x within p (omega arith)
      ∙ ap (λ m. joined m (met_before marks ts k n)) (sym (met-letters l.fold (letters_of l) (Some within) (get_or ts x nothing) n))
  passed (Node.Sequence x y) marks k within b h =
      let p = and_parts (nat_lt x k) (nat_lt y k) b in two_marked marks k x y within (ltb-true x k p.0) (ltb-true y k p.1) h
  passed (Node.Alternation x y) marks k within b h =
      let p = and_parts (nat_lt x k) (nat_lt y k) b in two_marked marks k x y within (ltb-true x k p.0) (ltb-true y k p.1) h
  passed (Node.Repeat greedy least most x) marks k within b h = let l = ltb-true x k b in before-marked marks k x within l (omega arith)
  passed (Node.Group m x) marks k within b h =
      let l = ltb-true x k b in
      ap (joined (own_mark within (Node.Group m x) n)) (before-marked marks k x within l (omega arith))
      ∙ sym (joined-assoc (own_mark within (Node.Group m x) n) (met_in (Some within) (get_or ts x nothing) n) (met_before marks ts k n))
  passed (Node.Atomic x) marks k within b h = let l = ltb-true x k b in before-marked marks k x within l (omega arith)
  passed (Node.Ahead negated x) marks k within b h = let l = ltb-true x k b in before-marked marks k x true l (omega arith)
  passed (Node.Behind negated x) marks k within b h = let l = ltb-true x k b in before-marked marks k x true l (omega arith)

  -- one node more, which has this mark
  pub step_marked : (node : Node) (marks : List (Option Bool)) (k : ℕ) (within : Bool) (old new : Option Bool) → parts_before k node ≡ true → k ≤ length marks
      → get_or ts k nothing ≡ node_tree ts node → get_or marks k None ≡ Some within → new ≡ joined old (own_mark within node n)
      → joined new (met_before (passed_on marks within node) ts k n) ≡ joined old (met_before marks ts (suc k) n)
  step_marked node marks k within old new b h tree mark e =
      let rest : Option Bool = met_before (passed_on marks within node) ts k n in
      ap (λ x. joined x rest) e
      ∙ joined-assoc old (own_mark within node n) rest
      ∙ ap (joined old) (passed node marks k within b h
      ∙ ap (λ (t : Tree). joined (met_in (Some within) t n) (met_before marks ts k n)) (sym tree)
      ∙ ap (λ (m : Option Bool). joined (met_in m (get_or ts k nothing) n) (met_before marks ts k n)) (sym mark))

  -- one node more, which was not met
  pub step_unmarked : (marks : List (Option Bool)) (k : ℕ) (old : Option Bool) → get_or marks k None ≡ None
      → joined old (met_before marks ts k n) ≡ joined old (met_before marks ts (suc k) n)
  step_unmarked marks k old mark =
      ap (joined old) (sym (ap (λ (m : Option Bool). joined (met_in m (get_or ts k nothing) n) (met_before marks ts k n)) mark
      ∙ ap (λ x. joined x (met_before marks ts k n)) (met-none (get_or ts k nothing) n)))

  pub get-none : (c k : ℕ) → get_or (replicate c unmet) k None ≡ None
  get-none c k = elim (cases_lt k c) [
    | inl l ↦ get_or-replicate c k unmet None l
    | inr g ↦ get_or_past (replicate c unmet) k None (omega (arith, length-replicate c unmet))
  ]

  none_before : (c k : ℕ) → met_before (replicate c None) ts k n ≡ None
  none_before c zero = refl
  none_before c (suc k) =
      ap (λ (m : Option Bool). joined (met_in m (get_or ts k nothing) n) (met_before (replicate c None) ts k n)) (get-none c k)
      ∙ ap (λ x. joined x (met_before (replicate c None) ts k n)) (met-none (get_or ts k nothing) n)
      ∙ none_before c k

  -- at first the root alone is marked
  pub first_marked : (root c : ℕ) → joined (get_or (replicate c None) n None) (met_before (marked (replicate (root + 1) None) root false) ts (root + 1) n) ≡ met_in (Some false) (get_or ts root nothing) n
  first_marked root c =
      ap (λ x. joined x (met_before (marked (replicate (root + 1) None) root false) ts (root + 1) n)) (get-none c n)
      ∙ before-marked (replicate (root + 1) None) (root + 1) root false (omega arith) (omega (arith, length-replicate (root + 1) unmet))
      ∙ ap (joined (met_in (Some false) (get_or ts root nothing) n)) (none_before (root + 1) (root + 1))
      ∙ joined-none (met_in (Some false) (get_or ts root nothing) n)

-- nothing is known of a place that is new
pub get-more : (looks : List (Option Bool)) (n : ℕ) → get_or (looks ++ None ∷ []) n None ≡ get_or looks n None
get-more looks n = elim (cases_lt n (length looks)) [
  | inl l ↦ get_or_append_left looks (None ∷ []) None n l
  | inr g ↦ elim (cases_eq n (length looks)) [
    | inl e ↦ ap (λ k. get_or (looks ++ None ∷ []) k None) e ∙ get_or-append_seam looks None [] None ∙ sym (get_or_past looks n None g)
    | inr e ↦ let ne : n ≢ length looks = e in get_or_past (looks ++ None ∷ []) n None (omega (arith, length-append looks (unmet ∷ []))) ∙ sym (get_or_past looks n None g)
  ]
]

-- one group more is marked
pub get-marked : (looks : List (Option Bool)) (k n : ℕ) (within : Bool) → k < length looks → get_or (marked looks k within) n None ≡ joined (get_or looks n None) (if k == n then Some within else None)
get-marked looks k n within h = elim (cases_eq k n) [
  | inl e ↦
      subst (λ (j : ℕ). get_or (marked looks k within) j None ≡ joined (get_or looks j None) (if k == j then Some within else None)) e
      (get_or-set_same looks k (joined (get_or looks k None) (Some within)) None h
      ∙ ap (λ (b : Bool). joined (get_or looks k None) (if b then Some within else None)) (sym (eq-eqb k k refl)))
  | inr e ↦
      let ne : n ≢ k = λ q. e (sym q) in
      get_or-set_other looks k n (joined (get_or looks k None) (Some within)) None ne
      ∙ sym (joined-none (get_or looks n None))
      ∙ ap (λ (b : Bool). joined (get_or looks n None) (if b then Some within else None)) (sym (ne_eqb k n e))
]

-- -- Nodes before the first group

-- the node is no group, and no group stands in its parts
no_group : (nodes : List Node) (n k : ℕ) → ((j : ℕ) → j < k → (m : Option Bool) → met_in m (get_or (trees nodes) j nothing) n ≡ None)
    → (node : Node) → parts_before k node ≡ true → is_group node ≡ false → (m : Option Bool) → met_in m (node_tree (trees nodes) node) n ≡ None
no_group nodes n k h Node.Nothing p e m = refl
no_group nodes n k h (Node.Char c) p e m = refl
no_group nodes n k h (Node.Class c) p e m = refl
no_group nodes n k h (Node.Anchor a) p e m = refl
no_group nodes n k h (Node.Same fold number) p e m = refl
no_group nodes n k h (Node.Text l a) p e m = met-letters l.fold (letters_of l) m (get_or (trees nodes) a nothing) n ∙ h a (ltb-true a k p) m
no_group nodes n k h (Node.Sequence a b) p e m =
    let inside = and_parts (nat_lt a k) (nat_lt b k) p in
    ap (λ x. joined x (met_in m (get_or (trees nodes) b nothing) n)) (h a (ltb-true a k inside.0) m) ∙ h b (ltb-true b k inside.1) m
no_group nodes n k h (Node.Alternation a b) p e m =
    let inside = and_parts (nat_lt a k) (nat_lt b k) p in
    ap (λ x. joined x (met_in m (get_or (trees nodes) b nothing) n)) (h a (ltb-true a k inside.0) m) ∙ h b (ltb-true b k inside.1) m
no_group nodes n k h (Node.Repeat greedy least most a) p e m = h a (ltb-true a k p) m
no_group nodes n k h (Node.Group number a) p e m = cc
no_group nodes n k h (Node.Atomic a) p e m = h a (ltb-true a k p) m
no_group nodes n k h (Node.Ahead negated a) p e m = h a (ltb-true a k p) (looked_at m)
no_group nodes n k h (Node.Behind negated a) p e m = h a (ltb-true a k p) (looked_at m)

module _ (nodes : List Node) (ordered : IsOrdered nodes) (n : ℕ) where
  no_group-before : (k : ℕ) → k ≤ length nodes → NoGroupBefore nodes k → (j : ℕ) → j < k → (m : Option Bool) → met_in m (get_or (trees nodes) j nothing) n ≡ None
  no_group-before zero inside first j l m = absurd (omega (arith, l))
  no_group-before (suc k) inside first j l m =
      let before = no_group-before k (omega (arith, inside)) (λ i q. first i (omega (arith, q))) in
      below_more (λ i. (o : Option Bool) → met_in o (get_or (trees nodes) i nothing) n ≡ None) k before
      (λ o. ap (λ (t : Tree). met_in o t n) (get_or-trees nodes ordered k)
      ∙ no_group nodes n k before (get_or nodes k Node.Nothing) (ordered k (omega (arith, inside))) (first k (omega arith)) o)
      j (omega (arith, l)) m

  -- so no mark before it tells of a group
  pub unmet-before : (k : ℕ) → k ≤ length nodes → NoGroupBefore nodes k → (marks : List (Option Bool)) → met_before marks (trees nodes) k n ≡ None
  unmet-before k inside first marks = down k (no_group-before k inside first)
    where
      down : (i : ℕ) → ((j : ℕ) → j < i → (m : Option Bool) → met_in m (get_or (trees nodes) j nothing) n ≡ None) → met_before marks (trees nodes) i n ≡ None
      down zero h = refl
      down (suc i) h =
          ap (λ x. joined x (met_before marks (trees nodes) i n)) (h i (omega arith) (get_or marks i None)) ∙ down i (λ j l. h j (omega (arith, l)))

-- a whole match before whose node there is none holds no group but itself
pub no_group-whole : (nodes : List Node) → IsOrdered nodes → (n root : ℕ) → root < length nodes → NoGroupBefore nodes root
    → (tree : Tree) → get_or (trees nodes) root nothing ≡ group 0 tree → group_in_look tree (suc n) ≡ None
no_group-whole nodes ordered n root inside first tree is =
    by (get_or nodes root Node.Nothing) (ordered root inside) (sym (get_or-trees nodes ordered root) ∙ is)
  where
    ts : List Tree
    ts = trees nodes

    by : (node : Node) → parts_before root node ≡ true → node_tree ts node ≡ group 0 tree → group_in_look tree (suc n) ≡ None
    by Node.Nothing p e = cc
    by (Node.Char c) p e = cc
    by (Node.Class c) p e = cc
    by (Node.Anchor a) p e = cc
    by (Node.Same fold number) p e = cc
    by (Node.Text l a) p e = cc
    by (Node.Sequence a b) p e = cc
    by (Node.Alternation a b) p e = cc
    by (Node.Repeat greedy least most a) p e = cc
    by (Node.Group number a) p e =
        let body : get_or ts a nothing ≡ tree = cc in
        let none = no_group-before nodes ordered (suc n) root (omega (arith, inside)) first a (ltb-true a root p) (Some false) in
        sym (met-whole tree n)
        ∙ ap (λ (b : Bool). joined (if b then Some false else None) (met_in (Some false) tree (suc n))) (ne_eqb 0 (suc n) (λ q. omega arith))
        ∙ ap (λ (t : Tree). met_in (Some false) t (suc n)) (sym body)
        ∙ none
    by (Node.Atomic a) p e = cc
    by (Node.Ahead negated a) p e = cc
    by (Node.Behind negated a) p e = cc

-- of a table without the root nothing is known
pub looks-outside : (nodes : List Node) (root : ℕ) (looks : List (Option Bool)) → length nodes ≤ root → AreLooks nodes root looks
looks-outside nodes root looks l n tree e =
    let none : nothing ≡ group 0 tree = sym (get_or_past (trees nodes) root nothing (omega (arith, l, length-trees nodes))) ∙ e in
    cc
