-- What the reader's quantifiers stand for.
use Rattle.std.specs.Prelude.{ℕ, Bool, List, Option, Some, option_map, min, if◌then◌else◌, chars}
use Rattle.std.specs.Borrow.{Bor}
use Rattle.syntect_pattern.specs.Reading.{Text, ◌∈◌, between, note, comment, passing_at}
use Rattle.syntect_pattern.specs.Reading as reading
use Rattle.syntect_pattern.specs.Grammar as grammar
use Rattle.syntect_pattern_words.specs.declared.text.TheConstants.{LIMIT}
use Rattle.syntect_pattern_words.specs.declared.quantifiers.Quantifier.{Quantifier}
use Rattle.syntect_pattern_words.specs.declared.quantifiers.Passing.{Passing}

-- large numbers are cut, and no count so large is allowed
abbrev pub capped_count : ℕ → ℕ
capped_count n = min n LIMIT

abbrev pub capped_quantifier : grammar.Quantifier → grammar.Quantifier
capped_quantifier q = record { least = capped_count q.least; most = option_map capped_count q.most; short = q.short }

abbrev pub capped_all : Option (grammar.Quantifier × Text) → Option (grammar.Quantifier × Text)
capped_all found = option_map (λ f. (capped_quantifier f.0, f.1)) found

abbrev pub quantifier_as : Quantifier → grammar.Quantifier
quantifier_as q = record { least = q.least; most = q.most; short = q.short }

-- a quantifier and what follows it, if there is one
abbrev pub counted : Option (Quantifier × Bor (List ℕ)) → Option (grammar.Quantifier × Text)
counted found = option_map (λ f. (quantifier_as f.0, chars f.1.now)) found

-- ---- For proofs and private functions alone ----

abbrev pub passing_as : Passing → reading.Passing
passing_as Passing.Between = between
passing_as Passing.Note = note
passing_as Passing.Comment = comment

-- what is passed over after the character, unless it isn't passed over itself; the flag is `x`
abbrev pub goes_on : Bool → reading.Passing → ℕ → Text → Option reading.Passing
goes_on spaced between c t = passing_at spaced c t
goes_on spaced note c t = Some (if c ∈ ")" then between else note)
goes_on spaced comment c t = Some (if c ∈ "\n" then between else comment)
