-- What is read of a group leaves no more of the text than there was, and the number that bounds the
-- reading has no effect where it is above the text's length.
use Rattle.std.proofs.Common.{◌≡◌, ℕ, zero, suc, ◌+◌, ◌≤◌, ◌<◌, [], ◌∷◌, length, drop, Option, Some, refl, ap, ◌∙◌, arith}
use Rattle.std.specs.Prelude.{nat_lt}
use Rattle.syntect_pattern.specs.Sets.{Set, from_to}
use Rattle.syntect_pattern.specs.Trees.{Tree, one_of, anchor}
use Rattle.syntect_pattern.specs.declared.anchor.Anchor.{Anchor}
use Rattle.syntect_pattern.specs.Reading.{Text, ◌>>=◌, ◌>>◌, begins}
use Rattle.syntect_pattern.specs.Escapes.{Escape, char, set, edge, number, name, escape}
use Rattle.syntect_pattern.specs.Classes.{deepest, class}
use Rattle.syntect_pattern.specs.Grammar.{Flags, Names, Cursor, passed, quantified, GroupOpening, setting, opens, opening, Body, empty_body, with_item, tree_of_body, Next, end, bar, closer, opener, bracket, backslash, dot, caret, dollar, loops, plain, next_char, next_of, Step, over, on, by_number, by_name, dot_set, item, firm, escaped, grouped, step, after_step, body}
use Rattle.syntect_pattern.proofs.LeftLaws.{Within, within-none, within-some, within-bind, within-guard, within-more, left_place, drop-le, escape-le, passed-le, quantified-le, opening-le}
use Rattle.syntect_pattern.proofs.ClassLaws.{bind-same, class-le}

-- what a step leaves, where one that goes on must have read something
abbrev pub step_size : Step → ℕ
step_size (over p) = length p.text
step_size (on b p) = suc (length p.text)

module _ (known : Option Names) where
  item-le : (b : Body) (a : Tree) (p : Cursor) (n : ℕ) → length p.text ≤ n → Within step_size (suc n) (item known b a p)
  item-le b a p n h =
      within-bind step_size (suc n) (quantified a p) (λ (x : Tree × Cursor). Some (on (with_item b x.0) x.1)) (λ x q.
      let l = (quantified-le a p).fits x q in within-some step_size (suc n) (on (with_item b x.0) x.1) (omega arith))

  firm-le : (b : Body) (a : Tree) (p : Cursor) (n : ℕ) → length p.text ≤ n → Within step_size (suc n) (firm known b a p)
  firm-le b a p n h = within-some step_size (suc n) (on (with_item b a) p) (omega arith)

  escaped-le : (b : Body) (p : Cursor) (n : ℕ) (e : Escape) → length p.text ≤ n → Within step_size (suc n) (escaped known b p e)
  escaped-le b p n (char c) h = item-le b (one_of (from_to p.flags.fold c c)) p n h
  escaped-le b p n (set a) h = item-le b (one_of a) p n h
  escaped-le b p n (edge a) h = firm-le b (anchor a) p n h
  escaped-le b p n (number k) h = within-bind step_size (suc n) (by_number known p.flags.fold k) (λ a. item known b a p) (λ a q. item-le b a p n h)
  escaped-le b p n (name found) h = within-bind step_size (suc n) (by_name known p.flags.fold found) (λ a. item known b a p) (λ a q. item-le b a p n h)

  module _ (inner : Cursor → Option (Tree × Cursor)) (inner-le : (p : Cursor) → Within left_place (length p.text) (inner p)) where
    grouped-le : (depth : ℕ) (b : Body) (flags : Flags) (n : ℕ) (o : GroupOpening) (p : Cursor) → length p.text ≤ n → Within step_size (suc n) (grouped known inner depth b flags (o, p))
    grouped-le depth b flags n setting p h = within-some step_size (suc n) (on b p) (omega arith)
    grouped-le depth b flags n (opens make) p h =
        within-guard step_size (suc n) (nat_lt depth deepest)
        (inner p >>= λ (a, last). begins ")" last.text >> item known b (make a) (record last { flags = flags; text = drop 1 last.text }))
        (within-bind step_size (suc n) (inner p) (λ (x : Tree × Cursor). begins ")" x.1.text >> item known b (make x.0) (record (x.1) { flags = flags; text = drop 1 x.1.text })) (λ x q.
        let l = (inner-le p).fits x q in
        let d = drop-le 1 x.1.text in
        within-guard step_size (suc n) (begins ")" x.1.text) _ (item-le b (make x.0) (record (x.1) { flags = flags; text = drop 1 x.1.text }) n (omega arith))))

    step-le : (depth : ℕ) (b : Body) (flags : Flags) (names : Names) (c : ℕ) (t : Text) (nx : Next)
        → Within step_size (suc (length t)) (step known inner depth b (record { flags = flags; names = names; text = c ∷ t }) nx)
    step-le depth b flags names c t end = within-some step_size (suc (length t)) _ (omega arith)
    step-le depth b flags names c t closer = within-some step_size (suc (length t)) _ (omega arith)
    step-le depth b flags names c t bar = within-some step_size (suc (length t)) _ (omega arith)
    step-le depth b flags names c t loops = within-none step_size (suc (length t))
    step-le depth b flags names c t opener =
        let inside : Cursor = record { flags = flags; names = names; text = t } in
        within-bind step_size (suc (length t)) (opening inside) (grouped known inner depth b flags) (λ o q.
        grouped-le depth b flags (length t) o.0 o.1 ((opening-le inside).fits o q))
    step-le depth b flags names c t bracket =
        within-bind step_size (suc (length t)) (class flags.fold depth t) (λ (x : Set × Text). item known b (one_of x.0) (record { flags = flags; names = names; text = x.1 })) (λ x q.
        item-le b (one_of x.0) (record { flags = flags; names = names; text = x.1 }) (length t) ((class-le flags.fold depth t).fits x q))
    step-le depth b flags names c t backslash =
        within-bind step_size (suc (length t)) (escape t) (λ (x : Escape × Text). escaped known b (record { flags = flags; names = names; text = x.1 }) x.0) (λ x q.
        escaped-le b (record { flags = flags; names = names; text = x.1 }) (length t) x.0 ((escape-le t).fits x q))
    step-le depth b flags names c t dot = item-le b (one_of (dot_set flags.any)) (record { flags = flags; names = names; text = t }) (length t) (omega arith)
    step-le depth b flags names c t caret = firm-le b (anchor Anchor.LineStart) (record { flags = flags; names = names; text = t }) (length t) (omega arith)
    step-le depth b flags names c t dollar = firm-le b (anchor Anchor.LineEnd) (record { flags = flags; names = names; text = t }) (length t) (omega arith)
    step-le depth b flags names c t (plain d) = item-le b (one_of (from_to flags.fold d d)) (record { flags = flags; names = names; text = t }) (length t) (omega arith)

    step_of-le : (depth : ℕ) (b : Body) (flags : Flags) (names : Names) (t : Text)
        → Within step_size (length t) (step known inner depth b (record { flags = flags; names = names; text = t }) (next_of t))
    step_of-le depth b flags names [] = within-some step_size 0 _ (omega arith)
    step_of-le depth b flags names (c ∷ t) = step-le depth b flags names c t (next_char (c ∷ t) c)

    pub step_at-le : (depth : ℕ) (b : Body) (p : Cursor) → Within step_size (length p.text) (step known inner depth b p (next_of p.text))
    step_at-le depth b p = step_of-le depth b p.flags p.names p.text

  after-le : (more : Body → Cursor → Option (Tree × Cursor)) (n : ℕ) (b : Body) (s : Step) → ((b' : Body) (q : Cursor) → Within left_place (length q.text) (more b' q)) → step_size s ≤ n
      → Within left_place n (after_step known more b s)
  after-le more n b (over p) e h = within-some left_place n (tree_of_body b, p) h
  after-le more n b (on b' p) e h = within-more left_place (length p.text) n (more b' p) (omega arith) (e b' p)

  pub body-le : (n depth : ℕ) (b : Body) (p : Cursor) → Within left_place (length p.text) (body known n depth b p)
  unfolding body
  body-le zero depth b p = within-none left_place (length p.text)
  body-le (suc n) depth b p =
      let inner = body known n (depth + 1) empty_body in
      within-bind left_place (length p.text) (passed p) (λ here. step known inner depth b here (next_of here.text) >>= after_step known (body known n depth) b) (λ here q.
      let l = (passed-le p).fits here q in
      within-more left_place (length here.text) (length p.text) _ l
      (within-bind left_place (length here.text) (step known inner depth b here (next_of here.text)) (after_step known (body known n depth) b) (λ s u.
      after-le (body known n depth) (length here.text) b s (body-le n depth) ((step_at-le inner (body-le n (depth + 1) empty_body) depth b here).fits s u))))

  grouped-same : (inner inner' : Cursor → Option (Tree × Cursor)) (depth : ℕ) (b : Body) (flags : Flags) (o : GroupOpening) (p : Cursor) → inner p ≡ inner' p
      → grouped known inner depth b flags (o, p) ≡ grouped known inner' depth b flags (o, p)
  grouped-same inner inner' depth b flags setting p e = refl
  grouped-same inner inner' depth b flags (opens make) p e =
      ap (λ (o : Option (Tree × Cursor)). nat_lt depth deepest >> (o >>= λ (x : Tree × Cursor). begins ")" x.1.text >> item known b (make x.0) (record (x.1) { flags = flags; text = drop 1 x.1.text }))) e

  step-same : (inner inner' : Cursor → Option (Tree × Cursor)) (depth : ℕ) (b : Body) (flags : Flags) (names : Names) (c : ℕ) (t : Text) (nx : Next)
      → ((q : Cursor) → length q.text ≤ length t → inner q ≡ inner' q)
      → step known inner depth b (record { flags = flags; names = names; text = c ∷ t }) nx ≡ step known inner' depth b (record { flags = flags; names = names; text = c ∷ t }) nx
  step-same inner inner' depth b flags names c t opener e =
      let inside : Cursor = record { flags = flags; names = names; text = t } in
      bind-same (opening inside) _ _ (λ o q. grouped-same inner inner' depth b flags o.0 o.1 (e o.1 ((opening-le inside).fits o q)))
  step-same inner inner' depth b flags names c t end e = refl
  step-same inner inner' depth b flags names c t closer e = refl
  step-same inner inner' depth b flags names c t bar e = refl
  step-same inner inner' depth b flags names c t loops e = refl
  step-same inner inner' depth b flags names c t bracket e = refl
  step-same inner inner' depth b flags names c t backslash e = refl
  step-same inner inner' depth b flags names c t dot e = refl
  step-same inner inner' depth b flags names c t caret e = refl
  step-same inner inner' depth b flags names c t dollar e = refl
  step-same inner inner' depth b flags names c t (plain d) e = refl

  pub step_of-same : (inner inner' : Cursor → Option (Tree × Cursor)) (depth : ℕ) (b : Body) (flags : Flags) (names : Names) (t : Text)
      → ((q : Cursor) → length q.text < length t → inner q ≡ inner' q)
      → step known inner depth b (record { flags = flags; names = names; text = t }) (next_of t) ≡ step known inner' depth b (record { flags = flags; names = names; text = t }) (next_of t)
  step_of-same inner inner' depth b flags names [] e = refl
  step_of-same inner inner' depth b flags names (c ∷ t) e = step-same inner inner' depth b flags names c t (next_char (c ∷ t) c) (λ q l. e q (omega arith))

  pub after-same : (more more' : Body → Cursor → Option (Tree × Cursor)) (n : ℕ) (b : Body) (s : Step) → ((b' : Body) (q : Cursor) → length q.text < n → more b' q ≡ more' b' q) → step_size s ≤ n
      → after_step known more b s ≡ after_step known more' b s
  after-same more more' n b (over p) e h = refl
  after-same more more' n b (on b' p) e h = e b' p (omega arith)

  -- each number above the length of the text reads the same
  pub body-enough : (n m depth : ℕ) (b : Body) (p : Cursor) → length p.text < n → length p.text < m → body known n depth b p ≡ body known m depth b p
  unfolding body
  body-enough zero m depth b p h k = absurd (omega arith)
  body-enough (suc n) zero depth b p h k = absurd (omega arith)
  body-enough (suc n) (suc m) depth b p h k =
      bind-same (passed p) _ _ (λ here q.
      let l = (passed-le p).fits here q in
      ap (λ o. o >>= after_step known (body known n depth) b)
      (step_of-same (body known n (depth + 1) empty_body) (body known m (depth + 1) empty_body) depth b here.flags here.names here.text
      (λ r u. body-enough n m (depth + 1) empty_body r (omega arith) (omega arith)))
      ∙ bind-same (step known (body known m (depth + 1) empty_body) depth b here (next_of here.text)) _ _ (λ s u.
      after-same (body known n depth) (body known m depth) (length here.text) b s
      (λ b' r v. body-enough n m depth b' r (omega arith) (omega arith))
      ((step_at-le (body known m (depth + 1) empty_body) (body-le m (depth + 1) empty_body) depth b here).fits s u)))
