-- What the reader's escapes stand for.
use Rattle.std.specs.Prelude.{ℕ, List, Option, option_map, chars}
use Rattle.std.specs.Borrow.{Bor}
use Rattle.syntect_pattern.specs.Sets.{negate_if}
use Rattle.syntect_pattern.specs.Reading.{Text}
use Rattle.syntect_pattern.specs.Escapes.{char, set, edge, number, name}
use Rattle.syntect_pattern.specs.Escapes as definition
use Rattle.syntect_pattern.specs.NamedSets.{set_of_named}
use Rattle.syntect_pattern_words.specs.declared.escapes.Escape.{Escape}

abbrev pub escape_of : Escape → definition.Escape
escape_of (Escape.Char c) = char c
escape_of (Escape.Set negated s) = set (negate_if negated (set_of_named s))
escape_of (Escape.Edge a) = edge a
escape_of (Escape.Number n) = number n
escape_of (Escape.Name t) = name (chars t.now)

-- an escape and what follows it, if there is one
abbrev pub escaped : Option (Escape × Bor (List ℕ)) → Option (definition.Escape × Text)
escaped found = option_map (λ f. (escape_of f.0, chars f.1.now)) found

-- a name and what follows it, if there is one
abbrev pub named_text : Option (Bor (List ℕ) × Bor (List ℕ)) → Option (Text × Text)
named_text found = option_map (λ f. (chars f.0.now, chars f.1.now)) found
