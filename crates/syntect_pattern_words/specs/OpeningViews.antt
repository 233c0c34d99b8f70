-- What the reader's openings stand for.
use Rattle.std.specs.Prelude.{ℕ, List, Option, option_map, chars}
use Rattle.std.specs.Borrow.{Bor}
use Rattle.syntect_pattern.specs.Trees.{Tree, group, atomic, ahead, behind}
use Rattle.syntect_pattern.specs.Reading.{Text}
use Rattle.syntect_pattern.specs.Grammar.{Names, setting, opens}
use Rattle.syntect_pattern.specs.Grammar as grammar
use Rattle.syntect_pattern_words.specs.declared.openings.Flags.{Flags}
use Rattle.syntect_pattern_words.specs.declared.openings.Place.{Place}
use Rattle.syntect_pattern_words.specs.declared.openings.Wrap.{Wrap}
use Rattle.syntect_pattern_words.specs.declared.openings.Opening.{Opening}

abbrev pub flags_as : Flags → grammar.Flags
flags_as f = record { fold = f.fold; any = f.any; spaced = f.spaced }

-- the place, after these groups
abbrev pub place_as : Names → Place → grammar.Cursor
place_as names p = record { flags = flags_as p.flags; names = names; text = chars p.text.now }

abbrev pub wrapped : Wrap → Tree → Tree
wrapped Wrap.Plain = λ a. a
wrapped (Wrap.Group n) = λ a. group n a
wrapped Wrap.Atomic = λ a. atomic a
wrapped (Wrap.Ahead negated) = λ a. ahead negated a
wrapped (Wrap.Behind negated) = λ a. behind negated a

abbrev pub opening_as : Opening → grammar.GroupOpening
opening_as Opening.Setting = setting
opening_as (Opening.Opens wrap) = opens (wrapped wrap)

abbrev pub opened_as : Names → Option (Opening × Place) → Option (grammar.GroupOpening × grammar.Cursor)
opened_as names found = option_map (λ f. (opening_as f.0, place_as names f.1)) found

-- ---- For proofs and private functions alone ----

abbrev pub letters_as : Option (Bor (List ℕ) × Bor (List ℕ)) → Option (Text × Text)
letters_as found = option_map (λ f. (chars f.0.now, chars f.1.now)) found

abbrev pub flagged_as : Option (Flags × Bor (List ℕ)) → Option (grammar.Flags × Text)
flagged_as found = option_map (λ f. (flags_as f.0, chars f.1.now)) found
