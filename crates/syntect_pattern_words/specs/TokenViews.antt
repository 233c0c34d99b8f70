-- What the reader's tokens and loops stand for.
use Rattle.std.specs.Prelude.{Bool, true, false, Option, option_map}
use Rattle.syntect_pattern.specs.Trees.{Tree, repeat, atomic}
use Rattle.syntect_pattern.specs.Grammar.{Names, Next, bar, opener, bracket, backslash, dot, caret, dollar, loops, plain}
use Rattle.syntect_pattern.specs.Grammar as grammar
use Rattle.syntect_pattern_words.specs.OpeningViews.{place_as}
use Rattle.syntect_pattern_words.specs.declared.openings.Place.{Place}
use Rattle.syntect_pattern_words.specs.declared.tokens.Looping.{Looping}
use Rattle.syntect_pattern_words.specs.declared.tokens.Token.{Token}

abbrev pub token_as : Token → Next
token_as Token.Bar = bar
token_as Token.Opener = opener
token_as Token.Bracket = bracket
token_as Token.Backslash = backslash
token_as Token.Dot = dot
token_as Token.Caret = caret
token_as Token.Dollar = dollar
token_as Token.Loops = loops
token_as (Token.Plain c) = plain c

-- given nothing back
abbrev pub possessed : Bool → Tree → Tree
possessed true a = atomic a
possessed false a = a

abbrev pub looped_tree : Looping → Tree → Tree
looped_tree Looping.Once a = a
looped_tree (Looping.Loop greedy possessive least most) a = possessed possessive (repeat greedy least most a)

-- the item repeated, and what follows, if it may be
abbrev pub repeated : Names → Tree → Option (Looping × Place) → Option (Tree × grammar.Cursor)
repeated names a found = option_map (λ f. (looped_tree f.0 a, place_as names f.1)) found
