-- What the reader's parts of classes stand for.
use Rattle.std.specs.Prelude.{ℕ, Bool, List, Option, option_map, chars}
use Rattle.std.specs.Borrow.{Bor}
use Rattle.syntect_pattern.specs.Sets.{Set, from_to, negate_if}
use Rattle.syntect_pattern.specs.Reading.{Text, begins}
use Rattle.syntect_pattern.specs.Classes.{one, many}
use Rattle.syntect_pattern.specs.Classes as definition
use Rattle.syntect_pattern.specs.NamedSets.{set_of_named}
use Rattle.syntect_pattern_words.specs.declared.members.Member.{Member}
use Rattle.syntect_pattern_words.specs.declared.members.Leaf.{Leaf}
use Rattle.syntect_pattern_words.specs.declared.members.Next.{Next}

abbrev pub leaf_set : Leaf → Set
leaf_set (Leaf.Span fold low high) = from_to fold low high
leaf_set (Leaf.Set negated s) = negate_if negated (set_of_named s)

abbrev pub leafed : Option (Leaf × Bor (List ℕ)) → Option (Set × Text)
leafed found = option_map (λ f. (leaf_set f.0, chars f.1.now)) found

abbrev pub next_as : Next → definition.Next
next_as Next.Closing = definition.closing
next_as Next.Intersecting = definition.intersecting
next_as Next.Nested = definition.nested
next_as Next.Posix = definition.posix
next_as Next.Plain = definition.plain

-- ---- For proofs and private functions alone ----

abbrev pub member_as : Member → definition.Member
member_as (Member.One c) = one c
member_as (Member.Many negated s) = many (negate_if negated (set_of_named s))

abbrev pub membered : Option (Member × Bor (List ℕ)) → Option (definition.Member × Text)
membered found = option_map (λ f. (member_as f.0, chars f.1.now)) found

abbrev pub charred : Option (ℕ × Bor (List ℕ)) → Option (ℕ × Text)
charred found = option_map (λ f. (f.0, chars f.1.now)) found

abbrev pub posix_as : Option (Bool × Bor (List ℕ) × Bor (List ℕ)) → Option (Bool × Text × Text)
posix_as found = option_map (λ f. (f.0, chars f.1.now, chars f.2.now)) found

-- what begins a class: whether `^` stands there, and what follows
abbrev pub started : Bool → Text → definition.Start
started caret rest = record { caret = caret; bracket = begins "]" rest; rest = rest }
