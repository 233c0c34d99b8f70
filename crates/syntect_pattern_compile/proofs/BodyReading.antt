-- The reading of a group, step by step, without the number that bounds its calls.
use Rattle.std.proofs.Common.{◌≡◌, ℕ, suc, ◌+◌, ◌<◌, length, drop, Option, Some, None, refl, ap, ◌∙◌, arith}
use Rattle.syntect_pattern.specs.Sets.{from_to}
use Rattle.syntect_pattern.specs.Trees.{Tree, one_of}
use Rattle.syntect_pattern.specs.Reading.{Text, ◌>>=◌}
use Rattle.syntect_pattern.specs.Grammar.{Flags, Names, Cursor, passed, Body, with_item, item, plain, empty_body, tree_of_body, Next, end, closer, next_of, over, on, step, after_step, body}
use Rattle.syntect_pattern_words.specs.BodyViews.{body_of, IsOver}
use Rattle.syntect_pattern_words.specs.Plain.{BeginsPlainly}
use Rattle.syntect_pattern_words.specs.QuantifierViews.{capped_all}
use Rattle.syntect_pattern_words.proofs.TokenLaws.{quantified-once}
use Rattle.syntect_pattern.proofs.LeftLaws.{passed-le}
use Rattle.syntect_pattern.proofs.ClassLaws.{bind-same}
use Rattle.syntect_pattern_compile.specs.ReaderViews.{inner_of}
use Rattle.syntect_pattern_compile.proofs.ReaderLaws.{passed-some}
use Rattle.syntect_pattern.proofs.BodyLaws.{step_of-same, after-same, step_at-le, body-le, body-enough}

module _ (known : Option Names) (depth : ℕ) where
  steps : (b : Body) (p : Cursor) → body_of known depth b p ≡ (passed p >>= λ here. step known (inner_of known depth) depth b here (next_of here.text) >>= after_step known (body_of known depth) b)
  unfolding body
  steps b p =
      let n = length p.text in
      bind-same (passed p) _ _ (λ here q.
      let l = (passed-le p).fits here q in
      ap (λ o. o >>= after_step known (body known n depth) b)
      (step_of-same known (body known n (depth + 1) empty_body) (inner_of known depth) depth b here.flags here.names here.text
      (λ r u. body-enough known n (suc (length r.text)) (depth + 1) empty_body r (omega arith) (omega arith)))
      ∙ bind-same (step known (inner_of known depth) depth b here (next_of here.text)) _ _ (λ s u.
      after-same known (body known n depth) (body_of known depth) (length here.text) b s
      (λ b' r v. body-enough known n (suc (length r.text)) depth b' r (omega arith) (omega arith))
      ((step_at-le known (inner_of known depth) (λ r. body-le known (suc (length r.text)) (depth + 1) empty_body r) depth b here).fits s u)))

  module _ (b : Body) (p : Cursor) where
    pub body-stuck : passed p ≡ None → body_of known depth b p ≡ None
    body-stuck e = steps b p ∙ ap (λ (o : Option Cursor). o >>= λ here. step known (inner_of known depth) depth b here (next_of here.text) >>= after_step known (body_of known depth) b) e

    module _ (here : Cursor) (e : passed p ≡ Some here) where
      at-here : body_of known depth b p ≡ (step known (inner_of known depth) depth b here (next_of here.text) >>= after_step known (body_of known depth) b)
      at-here = steps b p ∙ ap (λ (o : Option Cursor). o >>= λ here. step known (inner_of known depth) depth b here (next_of here.text) >>= after_step known (body_of known depth) b) e

      over-of : (nx : Next) → IsOver nx → step known (inner_of known depth) depth b here nx ≡ Some (over here)
      over-of end o = refl
      over-of closer o = refl
      over-of Next.bar o = absurd o
      over-of Next.opener o = absurd o
      over-of Next.bracket o = absurd o
      over-of Next.backslash o = absurd o
      over-of Next.dot o = absurd o
      over-of Next.caret o = absurd o
      over-of Next.dollar o = absurd o
      over-of Next.loops o = absurd o
      over-of (Next.plain c) o = absurd o

      pub body-over : IsOver (next_of here.text) → body_of known depth b p ≡ Some (tree_of_body b, here)
      body-over o = at-here ∙ ap (λ s. s >>= after_step known (body_of known depth) b) (over-of (next_of here.text) o)

      module _ (nx : Next) (n : next_of here.text ≡ nx) where
        pub body-refuses : step known (inner_of known depth) depth b here nx ≡ None → body_of known depth b p ≡ None
        body-refuses s =
            at-here ∙ ap (λ x. step known (inner_of known depth) depth b here x >>= after_step known (body_of known depth) b) n
            ∙ ap (λ s. s >>= after_step known (body_of known depth) b) s

        pub body-goes_on : (b' : Body) (q : Cursor) → step known (inner_of known depth) depth b here nx ≡ Some (on b' q) → body_of known depth b p ≡ body_of known depth b' q
        body-goes_on b' q s =
            at-here ∙ ap (λ x. step known (inner_of known depth) depth b here x >>= after_step known (body_of known depth) b) n
            ∙ ap (λ s. s >>= after_step known (body_of known depth) b) s

        pub body-shorter : (b' : Body) (q : Cursor) → step known (inner_of known depth) depth b here nx ≡ Some (on b' q) → length q.text < length p.text
        body-shorter b' q s =
            let l = (passed-le p).fits here e in
            let k =
            (step_at-le known (inner_of known depth) (λ r. body-le known (suc (length r.text)) (depth + 1) empty_body r) depth b here).fits (on b' q)
            (ap (step known (inner_of known depth) depth b here) n ∙ s) in
            omega arith

abbrev place_at : Flags → Names → Text → Cursor
place_at flags names text = record { flags = flags; names = names; text = text }

-- a character that stands for itself is one item more
pub body-plain : (known : Option Names) (depth : ℕ) (b : Body) (flags : Flags) (names : Names) (t rest : Text) (c : ℕ) → BeginsPlainly t c rest
    → body_of known depth b (record { flags = flags; names = names; text = t })
    ≡ body_of known depth (with_item b (one_of (from_to flags.fold c c))) (record { flags = flags; names = names; text = rest })
body-plain known depth b flags names t rest c l =
    let a = one_of (from_to flags.fold c c) in
    body-goes_on known depth b (place_at flags names t) (place_at flags names t) (passed-some flags names t t (l.before flags.spaced))
    (plain c) l.next (with_item b a) (place_at flags names rest)
    (ap (λ u. item known b a (place_at flags names u)) (ap (drop 1) l.letters)
    ∙ ap (λ (o : Option (Tree × Cursor)). o >>= λ x. Some (on (with_item b x.0) x.1))
    (quantified-once a flags names rest rest (l.behind flags.spaced) (ap capped_all l.once)))
