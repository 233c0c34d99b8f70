-- What the reader's groups stand for.
use Rattle.std.specs.Prelude.{ℕ, suc, Option, length}
use Rattle.syntect_pattern.specs.Trees.{Tree}
use Rattle.syntect_pattern.specs.Grammar.{Names, Next, end, closer, over, on}
use Rattle.syntect_pattern.specs.Grammar as grammar

-- the group is over there
abbrev pub IsOver : Next → Type 0
IsOver end = Unit {0}
IsOver closer = Unit {0}
IsOver _ = ⊥

-- ---- For proofs and private functions alone ----

-- what stands in a group from a place on, after what is read of it
abbrev pub body_of : Option Names → ℕ → grammar.Body → grammar.Cursor → Option (Tree × grammar.Cursor)
body_of known depth b p = grammar.body known (suc (length p.text)) depth b p
