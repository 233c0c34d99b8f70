-- The reading of a whole text.
use Rattle.std.proofs.Common.{◌≡◌, ℕ, [], Bool, true, false, Option, Some, None, refl, sym, ap, ◌∙◌}
use Rattle.std.specs.Prelude.{not, IfSome}
use Rattle.syntect_pattern.specs.Trees.{Tree}
use Rattle.syntect_pattern_table.specs.Builder.{tree_in}
use Rattle.syntect_pattern.specs.Reading.{Text, ◌>>=◌, ◌>>◌, is_empty}
use Rattle.syntect_pattern.specs.Grammar.{Names, Cursor, empty_body, whole, tree_of}
use Rattle.syntect_pattern_words.specs.BodyViews.{body_of}
use Rattle.syntect_pattern_compile.specs.Compiled.{CountsGroups, whole_as, tree_read}
use Rattle.syntect_pattern_compile.specs.declared.reader.Reader.{Reader}
use Rattle.syntect_pattern.proofs.NumberLaws.{counts_groups}

abbrev start : Names → Text → Cursor
start names t = record { flags = record { fold = false; any = false; spaced = false }; names = names; text = t }

ended : Option (Tree × Cursor) → Option (Tree × Names)
ended o = o >>= λ x. is_empty x.1.text >> Some (x.0, x.1.names)

module _ (known : Option Names) (names : Names) (none : names ≡ []) (t : Text) where
  whole-is : whole known t ≡ ended (body_of known 0 empty_body (start names t))
  unfolding whole ended
  whole-is = ap (λ ns. ended (body_of known 0 empty_body (start ns t))) (sym none)

  pub whole-stuck : body_of known 0 empty_body (start names t) ≡ None → whole known t ≡ None
  unfolding ended
  whole-stuck e = whole-is ∙ ap ended e

  module _ (a : Tree) (last : Cursor) (e : body_of known 0 empty_body (start names t) ≡ Some (a, last)) where
    pub whole-more : is_empty last.text ≡ false → whole known t ≡ None
    unfolding ended
    whole-more f = whole-is ∙ ap ended e ∙ ap (λ (b : Bool). b >> Some (a, last.names)) f

    pub whole-read : is_empty last.text ≡ true → whole known t ≡ Some (a, last.names)
    unfolding ended
    whole-read f = whole-is ∙ ap ended e ∙ ap (λ (b : Bool). b >> Some (a, last.names)) f

second : Text → Option (Tree × Names) → Option Tree
second t o = o >>= λ x. whole (Some x.1) t >>= λ y. Some y.0

-- the tree of a text
module _ (t : Text) where
  tree-is : tree_of t ≡ second t (whole None t)
  unfolding tree_of second
  tree-is = refl

  pub tree-unread : whole None t ≡ None → tree_of t ≡ None
  unfolding second
  tree-unread e = tree-is ∙ ap (second t) e

  module _ (a : Tree) (names : Names) (first : whole None t ≡ Some (a, names)) where
    pub tree-read : (f : Option (Reader × ℕ)) → whole (Some names) t ≡ whole_as f → tree_of t ≡ tree_read f
    unfolding second
    tree-read None e = tree-is ∙ ap (second t) first ∙ ap (λ (o : Option (Tree × Names)). o >>= λ y. Some y.0) e
    tree-read (Some x) e = tree-is ∙ ap (second t) first ∙ ap (λ (o : Option (Tree × Names)). o >>= λ y. Some y.0) e

-- whatever groups are known, all are counted
pub groups-counted : (known : Option Names) (t : Text) (f : Option (Reader × ℕ)) → whole known t ≡ whole_as f → IfSome f CountsGroups
groups-counted known t None e = tt
groups-counted known t (Some x) e = counts_groups known t (tree_in x.0.builder.nodes x.1) x.0.names e

not-true : (b : Bool) → not b ≡ true → b ≡ false
not-true true e = let clash : false ≡ true = e in cc
not-true false e = refl

-- the groups make no difference where no back reference was met
pub tree-alone : (t : Text) (f : Option (Reader × ℕ)) → whole None t ≡ whole_as f
    → IfSome f (λ x. x.0.refers ≡ false → (other : Option Names) → whole other t ≡ whole_as f)
    → (x : Reader × ℕ) → f ≡ Some x → not x.0.refers ≡ true → tree_of t ≡ tree_read (Some x)
tree-alone t None first alone x e none = cc
tree-alone t (Some y) first alone x e none =
    let same : y ≡ x = cc in
    tree-read t (tree_in y.0.builder.nodes y.1) y.0.names first (Some x) (alone (ap (λ (z : Reader × ℕ). z.0.refers) same ∙ not-true x.0.refers none) (Some y.0.names) ∙ ap whole_as e)
