-- Gaps between the elements of blocks.
use Rattle.std.proofs.Common.{◌≡◌, ℕ, ◌+◌, ◌<◌, ◌≤◌, List, [], ◌∷◌, ◌++◌, length, take, drop, get_or, set, refl, sym, ap, ◌∙◌, arith, append-nil, length-append, append_assoc, Some, ◌-◌, zero, suc, zero-add, suc-add, add-one, true, ◌==◌, vec_len, length-set}
use Rattle.std.specs.Global.{Vec}
use Rattle.std.specs.List.{insert, remove, slice_get}
use Rattle.std.proofs.lemmas.List.{take_more, drop_more, take-append-drop, length-take-le, get_or_at, get_or_default, set_at, take_at, set-get_or, set-append_left, get_or-append-add, get_or_append_left}
use Rattle.std.proofs.lemmas.List.Edits.{insert-append_left, insert-append_right, remove-append_left, remove-append_right}
use Rattle.std.proofs.lemmas.Bool.Decides.{nat_tests}
use Rattle.std.proofs.lemmas.Option.{slice_get-get_or}
use Rattle.std.proofs.lemmas.List.Concat.{flat_map-append}
use Rattle.syntect_blocks.specs.Joined.{joined, IsGap, IsPlace}

-- reading and writing after a list, and within it
set_behind : {X : Type 0} (xs ys : List X) (i : ℕ) (y : X) → set (xs ++ ys) (length xs + i) y ≡ xs ++ set ys i y
set_behind [] ys i y = rw zero-add refl
set_behind (x ∷ xs) ys i y = rw suc-add (ap (λ zs. x ∷ zs) (set_behind xs ys i y))

get_behind : {X : Type 0} (xs ys : List X) (i : ℕ) → slice_get (xs ++ ys) (length xs + i) ≡ slice_get ys i
get_behind [] ys i = rw zero-add refl
get_behind (x ∷ xs) ys i = rw suc-add (get_behind xs ys i)

get_within : {X : Type 0} (xs ys : List X) (i : ℕ) → i < length xs → slice_get (xs ++ ys) i ≡ slice_get xs i
get_within [] ys i l = absurd (omega arith)
get_within (x ∷ xs) ys zero l = refl
get_within (x ∷ xs) ys (suc i) l = get_within xs ys i (omega arith)

-- what comes after an element
drop_past : {X : Type 0} (xs ys : List X) (y : X) (n : ℕ) → length xs ≡ n → drop (suc n) (xs ++ y ∷ ys) ≡ ys
drop_past [] ys y n e = rw (← e) refl
drop_past (x ∷ xs) ys y n e = rw (← e) (drop_past xs ys y (length xs) refl)

-- a list at a place
pub parts_at : {X : Type 0} (xs : List X) (i : ℕ) (x : X) → i < length xs → x ≡ get_or xs i x → xs ≡ take i xs ++ x ∷ drop (i + 1) xs
parts_at xs i x l e =
    sym (take-append-drop i xs) ∙ ap (λ ys. take i xs ++ ys) (drop_more xs i x l) ∙ ap (λ y. take i xs ++ y ∷ drop (i + 1) xs) (sym e)

module _ {X : Type 0} where
  -- with one block more
  pub joined_more : (bs : List (Vec X)) (i : ℕ) (b : Vec X) → i < length bs → b ≡ get_or bs i b → joined (take (i + 1) bs) ≡ joined (take i bs) ++ b.items
  joined_more bs i b l e =
      ap joined (take_more bs i b l ∙ ap (λ z. take i bs ++ z ∷ []) (sym e))
      ∙ flat_map-append (λ (v : Vec X). v.items) (take i bs) (b ∷ [])
      ∙ ap (λ zs. joined (take i bs) ++ zs) (append-nil b.items)

  pub length_more : (bs : List (Vec X)) (i : ℕ) (b : Vec X) → i < length bs → b ≡ get_or bs i b
      → length (joined (take (i + 1) bs)) ≡ length (joined (take i bs)) + length b.items
  length_more bs i b l e = ap length (joined_more bs i b l e) ∙ length-append (joined (take i bs)) b.items

  pub gap_here : (bs : List (Vec X)) (i : ℕ) (b : Vec X) (index rest : ℕ) → i < length bs → b ≡ get_or bs i b
      → length (joined (take i bs)) + rest ≡ index → rest ≤ length b.items → IsGap bs index i rest
  gap_here bs i b index rest l e s w = record {
    before = take i bs;
    here = b;
    behind = drop (i + 1) bs;
    parts = parts_at bs i b l e;
    block_is = length-take-le i bs (omega arith);
    index_is = s;
    within = w;
  }

  pub place_here : (bs : List (Vec X)) (i : ℕ) (b : Vec X) (index rest : ℕ) → i < length bs → b ≡ get_or bs i b
      → length (joined (take i bs)) + rest ≡ index → rest < length b.items → IsPlace bs index i rest
  place_here bs i b index rest l e s w = record {
    gap = record {
      before = take i bs;
      here = b;
      behind = drop (i + 1) bs;
      parts = parts_at bs i b l e;
      block_is = length-take-le i bs (omega arith);
      index_is = s;
      within = omega arith;
    };
    has = w;
  }

  -- the elements, at a gap
  pub joined_at : (p q : List (Vec X)) (b : Vec X) → joined (p ++ b ∷ q) ≡ joined p ++ (b.items ++ joined q)
  joined_at p q b = flat_map-append (λ (v : Vec X). v.items) p (b ∷ q)

  pub joined_parts : (bs : List (Vec X)) (index block at : ℕ) (g : IsGap bs index block at) → joined bs ≡ joined g.before ++ (g.here.items ++ joined g.behind)
  joined_parts bs index block at g = ap joined g.parts ∙ joined_at g.before g.behind g.here

  -- a block in place of another
  pub set_block : (bs : List (Vec X)) (index block at : ℕ) (v : Vec X) (g : IsGap bs index block at) → set bs block v ≡ g.before ++ v ∷ g.behind
  set_block bs index block at v g = ap (λ zs. set zs block v) g.parts ∙ set_at g.before g.here g.behind v block g.block_is

  pub joined_set : (bs : List (Vec X)) (index block at : ℕ) (v : Vec X) (g : IsGap bs index block at) → joined (set bs block v) ≡ joined g.before ++ (v.items ++ joined g.behind)
  joined_set bs index block at v g = ap joined (set_block bs index block at v g) ∙ joined_at g.before g.behind v

  -- the block of a gap is the one that is read there
  pub block_read : (bs : List (Vec X)) (index block at : ℕ) (v : Vec X) (g : IsGap bs index block at) → v ≡ get_or bs block v → v ≡ g.here
  block_read bs index block at v g e = e ∙ ap (λ zs. get_or zs block v) g.parts ∙ get_or_at g.before g.here g.behind v block g.block_is

  -- a block with the same elements in its place
  pub same_block : (bs : List (Vec X)) (index block at : ℕ) (v : Vec X) (g : IsGap bs index block at) → v.items ≡ g.here.items → joined (set bs block v) ≡ joined bs
  same_block bs index block at v g e =
      joined_set bs index block at v g ∙ ap (λ zs. joined g.before ++ (zs ++ joined g.behind)) e ∙ sym (joined_parts bs index block at g)

  -- an element put in
  pub put_in : (bs : List (Vec X)) (index block at : ℕ) (v : Vec X) (x : X) (g : IsGap bs index block at) → v.items ≡ insert g.here.items at x
      → joined (set bs block v) ≡ insert (joined bs) index x
  put_in bs index block at v x g e =
      let before = length (joined g.before) in
      let from : at ≡ index - before = omega (arith, g.index_is) in
      let le : before ≤ index = omega (arith, g.index_is) in
      let within : index - before ≤ length g.here.items = omega (arith, g.within, g.index_is) in
      joined_set bs index block at v g
      ∙ ap (λ zs. joined g.before ++ (zs ++ joined g.behind)) (e ∙ ap (λ n. insert g.here.items n x) from)
      ∙ ap (λ zs. joined g.before ++ zs) (sym (insert-append_left g.here.items (joined g.behind) (index - before) x within))
      ∙ sym (insert-append_right (joined g.before) (g.here.items ++ joined g.behind) before index x refl le)
      ∙ ap (λ zs. insert zs index x) (sym (joined_parts bs index block at g))

  -- an element taken out
  pub taken_out : (bs : List (Vec X)) (index block at : ℕ) (v : Vec X) (p : IsPlace bs index block at) → v.items ≡ remove p.gap.here.items at
      → joined (set bs block v) ≡ remove (joined bs) index
  taken_out bs index block at v p e =
      let g = p.gap in
      let before = length (joined g.before) in
      let from : at ≡ index - before = omega (arith, g.index_is) in
      let le : before ≤ index = omega (arith, g.index_is) in
      let within : index - before < length g.here.items = omega (arith, p.has, g.index_is) in
      joined_set bs index block at v g
      ∙ ap (λ zs. joined g.before ++ (zs ++ joined g.behind)) (e ∙ ap (λ n. remove g.here.items n) from)
      ∙ ap (λ zs. joined g.before ++ zs) (sym (remove-append_left g.here.items (joined g.behind) (index - before) within))
      ∙ sym (remove-append_right (joined g.before) (g.here.items ++ joined g.behind) before index refl le)
      ∙ ap (λ zs. remove zs index) (sym (joined_parts bs index block at g))

  -- an element in place of another
  pub put_over : (bs : List (Vec X)) (index block at : ℕ) (v : Vec X) (x : X) (p : IsPlace bs index block at) → v.items ≡ set p.gap.here.items at x
      → joined (set bs block v) ≡ set (joined bs) index x
  put_over bs index block at v x p e =
      let g = p.gap in
      joined_set bs index block at v g
      ∙ ap (λ zs. joined g.before ++ (zs ++ joined g.behind)) e
      ∙ ap (λ zs. joined g.before ++ zs) (sym (set-append_left g.here.items (joined g.behind) at x p.has))
      ∙ sym (set_behind (joined g.before) (g.here.items ++ joined g.behind) at x)
      ∙ ap (λ n. set (joined g.before ++ (g.here.items ++ joined g.behind)) n x) g.index_is
      ∙ ap (λ zs. set zs index x) (sym (joined_parts bs index block at g))

  -- an element read
  pub read_at : (bs : List (Vec X)) (index block at : ℕ) (x : X) (p : IsPlace bs index block at) → x ≡ get_or p.gap.here.items at x → slice_get (joined bs) index ≡ Some x
  read_at bs index block at x p e =
      let g = p.gap in
      ap (λ zs. slice_get zs index) (joined_parts bs index block at g)
      ∙ ap (λ n. slice_get (joined g.before ++ (g.here.items ++ joined g.behind)) n) (sym g.index_is)
      ∙ get_behind (joined g.before) (g.here.items ++ joined g.behind) at
      ∙ get_within g.here.items (joined g.behind) at p.has
      ∙ slice_get-get_or g.here.items at x p.has
      ∙ ap (λ y. Some y) (sym e)

  -- ---- a block split ----

  -- with a block put in after another
  two_at : (bs : List (Vec X)) (block : ℕ) (b e : Vec X) → block < length bs → b ≡ get_or bs block b
      → insert bs (block + 1) e ≡ take block bs ++ b ∷ (e ∷ drop (block + 1) bs)
  two_at bs block b e l r =
      ap (λ zs. zs ++ e ∷ drop (block + 1) bs) (take_more bs block b l ∙ ap (λ z. take block bs ++ z ∷ []) (sym r))
      ∙ append_assoc (take block bs) (b ∷ []) (e ∷ drop (block + 1) bs)

  -- the block before it is the one that stood there
  pub still_there : (bs : List (Vec X)) (block : ℕ) (b e : Vec X) → block < length bs → b ≡ get_or (insert bs (block + 1) e) block b → b ≡ get_or bs block b
  still_there bs block b e l r =
      r ∙ ap (λ zs. get_or zs block b) (two_at bs block (get_or bs block b) e l (get_or_default bs block b (get_or bs block b) l))
      ∙ get_or_at (take block bs) (get_or bs block b) (e ∷ drop (block + 1) bs) b block (length-take-le block bs (omega arith))

  -- two halves of a block, one after the other, have its elements
  pub halves : (bs all : List (Vec X)) (block half : ℕ) (b e low high : Vec X) → block < length bs → all ≡ insert bs (block + 1) e → b ≡ get_or all block b
      → low.items ≡ take half b.items → high.items ≡ drop half b.items → joined (set (set all block low) (block + 1) high) ≡ joined bs
  halves bs all block half b e low high l i r f g =
      let p = take block bs in
      let q = drop (block + 1) bs in
      let n : length p ≡ block = length-take-le block bs (omega arith) in
      let s : b ≡ get_or bs block b = still_there bs block b e l (r ∙ ap (λ zs. get_or zs block b) i) in
      let m : length (p ++ low ∷ []) ≡ block + 1 = length-append p (low ∷ []) ∙ ap (λ k. k + 1) n in
      let t : set (set all block low) (block + 1) high ≡ (p ++ low ∷ []) ++ high ∷ q =
      ap (λ zs. set (set zs block low) (block + 1) high) (i ∙ two_at bs block b e l s)
      ∙ ap (λ zs. set zs (block + 1) high) (set_at p b (e ∷ q) low block n ∙ sym (append_assoc p (low ∷ []) (e ∷ q)))
      ∙ set_at (p ++ low ∷ []) e q high (block + 1) m in
      ap joined (t ∙ append_assoc p (low ∷ []) (high ∷ q)) ∙ joined_at p (high ∷ q) low
      ∙ ap (λ zs. joined p ++ zs) (ap (λ zs. zs ++ (high.items ++ joined q)) f ∙ ap (λ zs. take half b.items ++ (zs ++ joined q)) g
      ∙ sym (append_assoc (take half b.items) (drop half b.items) (joined q)) ∙ ap (λ zs. zs ++ joined q) (take-append-drop half b.items))
      ∙ sym (joined_at p q b) ∙ ap joined (sym (parts_at bs block b l s))

  -- a block put in and taken out again
  pub put_back : (bs all : List (Vec X)) (block : ℕ) (b e : Vec X) → block < length bs → all ≡ insert bs (block + 1) e → b ≡ get_or all block b
      → remove (set all block b) (block + 1) ≡ bs
  put_back bs all block b e l i r =
      let n : length (take (block + 1) bs) ≡ block + 1 = length-take-le (block + 1) bs (omega arith) in
      ap (λ zs. remove zs (block + 1)) (ap (λ x. set all block x) r ∙ set-get_or all block b ∙ i)
      ∙ ap (λ zs. zs ++ drop (suc (block + 1)) (insert bs (block + 1) e)) (take_at (take (block + 1) bs) (e ∷ drop (block + 1) bs) (block + 1) n)
      ∙ ap (λ zs. take (block + 1) bs ++ zs) (drop_past (take (block + 1) bs) (drop (block + 1) bs) e (block + 1) n)
      ∙ take-append-drop (block + 1) bs

  -- ---- a block without elements ----

  pub no_items : (b : Vec X) → true ≡ (vec_len b == 0) → b.items ≡ []
  no_items b e = none b.items (omega (arith, b.ok.0, zero_of b.len e))
    where
      none : (xs : List X) → length xs ≡ 0 → xs ≡ []
      none [] n = refl
      none (x ∷ xs) n = absurd (omega arith)

      zero_of : (n : ℕ) → true ≡ (n == 0) → n ≡ 0
      zero_of n t = grind (arith, nat_tests)

  pub emptied : (bs : List (Vec X)) (block : ℕ) (e : Vec X) → block < length bs → e ≡ get_or bs block e → e.items ≡ [] → joined (remove bs block) ≡ joined bs
  emptied bs block e l r i =
      ap (λ n. joined (take block bs ++ drop n bs)) (sym (add-one block)) ∙ flat_map-append (λ (v : Vec X). v.items) (take block bs) (drop (block + 1) bs)
      ∙ ap (λ zs. joined (take block bs) ++ (zs ++ joined (drop (block + 1) bs))) (sym i)
      ∙ sym (joined_at (take block bs) (drop (block + 1) bs) e) ∙ ap joined (sym (parts_at bs block e l r))

  pub emptied_at : (bs : List (Vec X)) (index block at : ℕ) (v e : Vec X) (g : IsGap bs index block at) → e ≡ get_or (set bs block v) block e → e.items ≡ []
      → joined (remove (set bs block v) block) ≡ joined (set bs block v)
  emptied_at bs index block at v e g r i = emptied (set bs block v) block e (omega (arith, n, m, g.block_is)) r i
    where
      n : length (set bs block v) ≡ length bs
      n = length-set bs block v

      m : length bs ≡ length g.before + suc (length g.behind)
      m = ap length g.parts ∙ length-append g.before (g.here ∷ g.behind)
