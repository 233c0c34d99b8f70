-- Answers to lines, as a buffer keeps them.
use Rattle.std.specs.Prelude.{◌≡◌, ◌≢◌, ℕ, ◌+◌, ◌-◌, ◌<◌, List, [], ◌∷◌, ◌++◌, length, map, replicate, None}
use Rattle.std.specs.Borrow.{Bor}
use Rattle.std.specs.List.{flat_map}
use Rattle.std.specs.declared.ops.Range.{Range}
use Rattle.syntect_buffer.specs.syntect_base.Limiting.{limit_of}
use Rattle.syntect_buffer.specs.syntect_base.declared.limits.Limits.{Limits}
use Rattle.syntect_buffer.specs.syntect_style.Styling.{shown_style}
use Rattle.syntect_buffer.specs.syntect_theme.declared.style.Style.{Style}
use Rattle.syntect_buffer.specs.syntect_theme.declared.theme.Theme.{Theme}
use Rattle.syntect_buffer.specs.syntect_parsing.Line.{Answer, Accepted, RefusedBy}
use Rattle.syntect_buffer.specs.syntect_parsing.declared.within.LineLimit.{LineLimit}
use Rattle.syntect_buffer.specs.syntect_parsing.declared.within.LineLimit.TheVariants.{Steps, Turns, Levels, Operations}
use Rattle.syntect_buffer.specs.syntect_grammar_contexts.declared.error.ParsingError.{ParsingError}
use Rattle.syntect_buffer.specs.syntect_grammar_contexts.declared.error.ParsingError.TheVariants as parsing
use Rattle.syntect_buffer.specs.syntect_grammar.declared.error.Error.{Error}
use Rattle.syntect_buffer.specs.syntect_grammar.declared.error.Error.TheVariants as error
use Rattle.syntect_buffer.specs.declared.answer.LineAnswer.{LineAnswer}
use Rattle.syntect_buffer.specs.declared.answer.LineAnswer.TheVariants as answer

-- ---- ranges ----

-- The ranges follow one another from a place to another one, and none is empty.
abbrev pub Follow : ℕ → List (Style × Range ℕ) → ℕ → Type 0
Follow from [] to = from ≡ to
Follow from (p ∷ ps) to = (p.1.start ≡ from) × (from < p.1.end) × Follow p.1.end ps to

-- the style of each byte of the ranges
abbrev pub styles_in : List (Style × Range ℕ) → List Style
styles_in ps = flat_map (λ p. replicate (p.1.end - p.1.start) p.0) ps

-- ---- answers ----

-- The refusal is that of the reading, which is not lack of memory.
abbrev pub IsRefusal : ParsingError → LineAnswer → Type 0
IsRefusal parsing.Memory a = ⊥
IsRefusal e (answer.Refused (error.ParsingError f)) = f ≡ e
IsRefusal e a = ⊥

-- A buffer's answer is the one that a reading of the line comes to. Where that accepts the line,
-- the ranges go from its start to its end, and where the lines are orderly, each byte has the
-- theme's style for its scopes.
abbrev pub IsAnswer : Type 0 → Theme → List ℕ → Answer → LineAnswer → Type 0
IsAnswer orderly theme line (Accepted bytes) (answer.Pieces ps) =
    Follow 0 ps.items (length line) × (orderly → styles_in ps.items ≡ map (shown_style theme) bytes)
IsAnswer orderly theme line (Accepted bytes) (answer.Refused e) = ⊥
IsAnswer orderly theme line (Accepted bytes) (answer.LimitReached l) = ⊥
IsAnswer orderly theme line (RefusedBy e) a = IsRefusal e a

-- ---- limits ----

-- this is one of the limits
abbrev pub HasLimit : Limits → LineLimit → Type 0
HasLimit limits (Steps context index place) = limit_of limits.steps ≢ None
HasLimit limits (Turns place) = limit_of limits.turns ≢ None
HasLimit limits (Levels place levels) = limit_of limits.levels ≢ None
HasLimit limits (Operations place operations) = limit_of limits.operations ≢ None

-- the limits have none for lines
abbrev pub HasNoLimit : Limits → Type 0
HasNoLimit limits =
    (limit_of limits.steps ≡ None) × (limit_of limits.turns ≡ None)
    × (limit_of limits.levels ≡ None) × (limit_of limits.operations ≡ None)

-- a limit that an answer tells is one of these
abbrev pub TellsOf : Limits → LineAnswer → Type 0
TellsOf limits (answer.Pieces ps) = Unit {0}
TellsOf limits (answer.Refused e) = Unit {0}
TellsOf limits (answer.LimitReached l) = HasLimit limits l

-- this holds, unless the answer is that a limit was reached
abbrev pub UnlessLimit : LineAnswer → Type 0 → Type 0
UnlessLimit (answer.Pieces ps) P = P
UnlessLimit (answer.Refused e) P = P
UnlessLimit (answer.LimitReached l) P = Unit {0}

-- the line of an answer, which is left out where it reached a limit
abbrev pub given_line : List ℕ → LineAnswer → List (List ℕ)
given_line line (answer.Pieces ps) = line ∷ []
given_line line (answer.Refused e) = line ∷ []
given_line line (answer.LimitReached l) = []

-- the lines of answers but those that reached a limit
abbrev pub given_lines : List (List ℕ) → List LineAnswer → List (List ℕ)
given_lines [] bs = []
given_lines (l ∷ ls) [] = []
given_lines (l ∷ ls) (a ∷ bs) = given_line l a ++ given_lines ls bs

-- ---- For proofs and private functions alone ----

-- how many bytes pieces have together
abbrev pub total : List (Style × Bor (List ℕ)) → ℕ
total pieces = length (flat_map (λ p. p.1.now) pieces)

-- the ranges of pieces, the first of which begins at this place
abbrev pub ranges_from : ℕ → List (Style × Bor (List ℕ)) → List (Style × Range ℕ)
ranges_from from [] = []
ranges_from from (p ∷ ps) =
    (p.0, record { start = from; end = from + length p.1.now })
    ∷ ranges_from (from + length p.1.now) ps
