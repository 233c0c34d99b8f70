-- What is reported of a text in which limits were reached.
use Rattle.std.specs.Prelude.{ℕ, List, ◌++◌, codes, decimal, Option, Some, None, ◌⊎◌}
use Rattle.syntect_cat.specs.syntect_grammar_limits.declared.first_line_error.FirstLineLimit.{FirstLineLimit}
use Rattle.syntect_cat.specs.Written.{Begins}
use Rattle.syntect_cat.specs.declared.note.Note.{Note}
use Rattle.syntect_cat.specs.declared.note.Note.TheVariants.{Syntax, Line}
use Rattle.syntect_cat.specs.syntect_parsing.declared.within.LineLimit.{LineLimit}
use Rattle.syntect_cat.specs.syntect_parsing.declared.within.LineLimit.TheVariants.{Steps, Turns, Levels, Operations}

-- ---- For proofs and private functions alone ----

-- which limit a line reached, and at which byte of it
abbrev pub reached_text : LineLimit → List ℕ
reached_text (Steps context index place) = codes "too many steps at byte " ++ decimal place
reached_text (Turns place) = codes "too many turns at byte " ++ decimal place
reached_text (Levels place levels) = codes "too many open contexts at byte " ++ decimal place
reached_text (Operations place operations) =
    codes "too many operations at byte " ++ decimal place

-- the line that tells of the first plain one, by its number
abbrev pub note_line : ℕ × LineLimit → List ℕ
note_line line =
    codes "syncat: line "
    ++ (decimal line.0 ++ (codes " is shown plain: " ++ (reached_text line.1 ++ codes "\n")))

-- what is reported where there is no memory for more
abbrev pub short_note : List ℕ
short_note = codes "syncat: a line is shown plain\n"

-- what is reported where the syntax was not found within limits
abbrev pub syntax_note : List ℕ
syntax_note = codes "syncat: shown as plain text: too many steps for the first line\n"

-- what is reported of a text for whose syntax, or in whose first plain line, a limit was reached
abbrev pub note_of : Option FirstLineLimit → Option (ℕ × LineLimit) → Option Note
note_of (Some limit) line = Some Syntax
note_of None (Some line) = Some (Line line)
note_of None None = None

-- it is reported, or begun; of a line perhaps without its number, as there was no memory for it
abbrev pub Tells : Option (List ℕ) → Option (List ℕ) → Note → Type 0
Tells old new Syntax = Begins old new syntax_note
Tells old new (Line line) = (Begins old new (note_line line)) ⊎ (Begins old new short_note)
