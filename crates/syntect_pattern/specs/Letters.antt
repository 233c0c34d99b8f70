-- Letters in a row.
use Rattle.std.specs.Prelude.{ℕ, Bool, List, [], ◌∷◌, drop}
use Rattle.syntect_pattern.specs.Sets.{from_to}
use Rattle.syntect_pattern.specs.Trees.{Tree, one_of, seq}
use Rattle.syntect_pattern.specs.declared.letters.Letters.{Letters}

-- the letters, the first one first
abbrev pub letters_of : Letters → List ℕ
letters_of l = l.first ∷ drop l.from l.others

-- one letter after the other, with `fold` in any case, and then the tree
abbrev pub letters_tree : Bool → List ℕ → Tree → Tree
letters_tree fold [] t = t
letters_tree fold (c ∷ cs) t = seq (one_of (from_to fold c c)) (letters_tree fold cs t)
