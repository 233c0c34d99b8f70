-- The reading of a group, from its parenthesis on.
use Rattle.std.proofs.Common.{◌≡◌, ℕ, ◌<◌, ◌≤◌, drop, Bool, true, false, Option, Some, None, ap, ◌∙◌, arith}
use Rattle.std.specs.Prelude.{nat_lt}
use Rattle.std.proofs.lemmas.Bool.{lt-ltb}
use Rattle.std.proofs.lemmas.Bool.Decides.{nat_tests}
use Rattle.syntect_pattern.specs.Trees.{Tree}
use Rattle.syntect_pattern.specs.Reading.{◌>>=◌, ◌>>◌, begins}
use Rattle.syntect_pattern.specs.Classes.{deepest}
use Rattle.syntect_pattern.specs.Grammar.{Names, Cursor, GroupOpening, setting, opens, opening, forward, Body, opener, Step, on, step, grouped, item}

module _ (known : Option Names) (inner : Cursor → Option (Tree × Cursor)) (depth : ℕ) (b : Body) (p : Cursor) where
  pub group-unopened : opening (forward 1 p) ≡ None → step known inner depth b p opener ≡ None
  group-unopened e = ap (λ (o : Option (GroupOpening × Cursor)). o >>= grouped known inner depth b p.flags) e

  pub group-setting : (q : Cursor) → opening (forward 1 p) ≡ Some (setting, q) → step known inner depth b p opener ≡ Some (on b q)
  group-setting q e = ap (λ (o : Option (GroupOpening × Cursor)). o >>= grouped known inner depth b p.flags) e

  module _ (make : Tree → Tree) (q : Cursor) (e : opening (forward 1 p) ≡ Some (opens make, q)) where
    closed : Option (Tree × Cursor) → Option Step
    closed o = o >>= λ x. begins ")" x.1.text >> item known b (make x.0) (record { flags = p.flags; names = x.1.names; text = drop 1 x.1.text })

    group-opens : step known inner depth b p opener ≡ (nat_lt depth deepest >> closed (inner q))
    unfolding closed
    group-opens = ap (λ (o : Option (GroupOpening × Cursor)). o >>= grouped known inner depth b p.flags) e

    pub group-deep : deepest ≤ depth → step known inner depth b p opener ≡ None
    group-deep h =
        let deep : nat_lt depth deepest ≡ false = grind (arith, nat_tests) in
        group-opens ∙ ap (λ (t : Bool). t >> closed (inner q)) deep

    module _ (fits : depth < deepest) where
      group-inside : step known inner depth b p opener ≡ closed (inner q)
      group-inside = group-opens ∙ ap (λ (t : Bool). t >> closed (inner q)) (lt-ltb depth deepest fits)

      pub group-unread : inner q ≡ None → step known inner depth b p opener ≡ None
      unfolding closed
      group-unread h = group-inside ∙ ap closed h

      module _ (a : Tree) (last : Cursor) (h : inner q ≡ Some (a, last)) where
        pub group-unclosed : begins ")" last.text ≡ false → step known inner depth b p opener ≡ None
        unfolding closed
        group-unclosed f =
            group-inside ∙ ap closed h
            ∙ ap (λ (t : Bool). t >> item known b (make a) (record { flags = p.flags; names = last.names; text = drop 1 last.text })) f

        pub group-item : begins ")" last.text ≡ true → step known inner depth b p opener ≡ item known b (make a) (record { flags = p.flags; names = last.names; text = drop 1 last.text })
        unfolding closed
        group-item f =
            group-inside ∙ ap closed h
            ∙ ap (λ (t : Bool). t >> item known b (make a) (record { flags = p.flags; names = last.names; text = drop 1 last.text })) f
