-- What is shown of a file, by what calls on its tree told.
use Rattle.std.specs.Prelude.{◌≡◌, ◌≢◌, ◌<◌, ◌+◌, ℕ, List, [], length, Option, Some, None, IfSome, IsUtf8, slice_get, ◌⊎◌}
use Rattle.std.specs.Io.{StartsWith}
use Rattle.std.specs.Io.BufRead.{take_through}
use Rattle.std.specs.Option.{option_or}
use Rattle.syntect_easy.specs.syntect_base.Limiting.{limit_of}
use Rattle.syntect_easy.specs.syntect_base.declared.limits.Limits.{Limits}
use Rattle.syntect_grammar_limits.specs.declared.first_line_error.FirstLineLimit.{FirstLineLimit}
use Rattle.syntect_easy.specs.syntect_theme.declared.theme.Theme.{Theme}
use Rattle.std.specs.declared.io.Error.{Error as IoError}
use Rattle.syntect_easy.specs.syntect_base.Trees.{Answer, opened, not_opened, not_read_on}
use Rattle.syntect_easy.specs.syntect_grammar.Finding.{found_for_file, found_by_file_name, found_plain_text}
use Rattle.syntect_easy.specs.syntect_grammar.Link.{syntaxes_in}
use Rattle.syntect_easy.specs.syntect_grammar_contexts.declared.syntax_reference.SyntaxReference.{SyntaxReference}
use Rattle.syntect_easy.specs.syntect_grammar.declared.syntax_set.SyntaxSet.{SyntaxSet}
use Rattle.syntect_easy.specs.syntect_grammar.declared.error.Error.{Error}
use Rattle.syntect_easy.specs.syntect_grammar.declared.error.Error.TheVariants as error
use Rattle.syntect_easy.specs.Leads.{LacksStart, OnlyParsing}
use Rattle.syntect_easy.specs.Pages.{IsPageOfBytes, IsStopped, TellsNoText}
use Rattle.syntect_easy.specs.Rows.{IsTextOf, HasNoText}

-- the syntax of the set that the path of a file tells, or else its first line, or else that of
-- plain text
pub record IsSyntaxFor (set : SyntaxSet) (path : List ℕ) (syntax : SyntaxReference) : Type 0 where
  pub line : List ℕ
  pub text : IsUtf8 line
  pub found : option_or (found_for_file set path line) (found_plain_text set) ≡ Some syntax
  pub place : ℕ
  pub among : slice_get (syntaxes_in set) place ≡ Some syntax

-- The line is the first one of the bytes, up to and with its newline: whole where something stands
-- after it, else perhaps without a last character that is cut off.
pub record IsFirstOf (bytes line : List ℕ) : Type 0 where
  pub front : StartsWith (take_through 10 bytes) line
  pub nearly : length (take_through 10 bytes) < length line + 4
  pub whole : length (take_through 10 bytes) < length bytes → line ≡ take_through 10 bytes

-- The line is the first one of what was read at once of the bytes that were left: of a front of
-- them, which is empty only where nothing is left.
pub record IsAskedOf (left line : List ℕ) : Type 0 where
  pub given : List ℕ
  pub front : StartsWith left given
  pub some : length given ≡ 0 → left ≡ []
  pub first : IsFirstOf given line

-- It is that syntax; and where it is known what is left of the file, the line that was asked is a
-- front of the first one that is left, and where the path tells nothing that of what
-- was read at once.
pub record IsToldSyntax (set : SyntaxSet) (path : List ℕ) (left : Option (List ℕ))
    (syntax : SyntaxReference) : Type 0 where
  pub is_for : IsSyntaxFor set path syntax
  pub front : IfSome left (λ xs. StartsWith (take_through 10 xs) is_for.line)
  pub asked : None ≡ found_by_file_name set path → IfSome left (λ xs. IsAskedOf xs is_for.line)

-- It is the syntax of plain text, since the path tells nothing, and the searches of the first line
-- reached the limit of steps.
pub record IsPlainInstead (limits : Limits) (set : SyntaxSet) (path : List ℕ)
    (syntax : SyntaxReference) : Type 0 where
  pub limited : limit_of limits.steps ≢ None
  pub unnamed : found_by_file_name set path ≡ None
  pub plain : found_plain_text set ≡ Some syntax
  pub place : ℕ
  pub among : slice_get (syntaxes_in set) place ≡ Some syntax

-- the syntax of a file whose first line is searched within limits, and the limit if it was reached
abbrev pub IsSyntaxWithin : Limits → SyntaxSet → List ℕ → SyntaxReference → Option FirstLineLimit
    → Type 0
IsSyntaxWithin limits set path syntax None = IsSyntaxFor set path syntax
IsSyntaxWithin limits set path syntax (Some limit) = IsPlainInstead limits set path syntax

abbrev pub IsToldWithin : Limits → SyntaxSet → List ℕ → Option (List ℕ) → SyntaxReference
    → Option FirstLineLimit → Type 0
IsToldWithin limits set path left syntax None = IsToldSyntax set path left syntax
IsToldWithin limits set path left syntax (Some limit) = IsPlainInstead limits set path syntax

-- A fault of an opened file that has this left, as its first line is asked: the file was not read
-- further, for this fault; or what was read at once begins with a line that is not UTF-8.
abbrev pub IsFrontFault : (Told : Answer → Type 0) → List ℕ → Option (List ℕ) → IoError → Type 0
IsFrontFault Told path left e =
    Told (not_read_on path e)
    ⊎ (TellsNoText e × (given : List ℕ) × IfSome left (λ xs. StartsWith xs given)
    × ¬ (IsUtf8 (take_through 10 given)))

-- a fault of a file as its first line is asked: it was not opened, for this fault; or it was, and
-- then the front of it has the fault
pub data IsFileFault (Told : Answer → Type 0) (path : List ℕ) (e : IoError) : Type 0 where
  file_unopened : Told (not_opened path e) → IsFileFault Told path e
  file_unread : {left : Option (List ℕ)} → Told (opened path left)
      → IsFrontFault Told path left e → IsFileFault Told path e

-- a fault of what gives lines: it failed so, or one of its text's lines is not UTF-8
abbrev pub IsLineFault : (Failed : IoError → Type 0) → Option (List ℕ) → IoError → Type 0
IsLineFault Failed left e =
    Failed e ⊎ (TellsNoText e × (text : List ℕ) × IsTextOf left text × HasNoText text)

-- a refusal is one of these faults, or no fault of reading
abbrev pub FaultsAre : (Faults : IoError → Type 0) → Error → Type 0
FaultsAre Faults (error.Io e) = Faults e
FaultsAre Faults e = Unit {0}

-- a fault of a file all lines of which are read
abbrev pub IsTextFault : (Told : Answer → Type 0) → List ℕ → IoError → Type 0
IsTextFault Told path e =
    IsFileFault Told path e
    ⊎ ((left : Option (List ℕ)) × Told (opened path left)
    × IsLineFault (λ e. Told (not_read_on path e)) left e)

-- no line of a file is read: no syntax is there for it, or the syntax has no `__start`, or the file
-- is not read, for one of these faults, or there was no memory
abbrev pub HasNoLines : (Faults : IoError → Type 0) → SyntaxSet → List ℕ → Error → Type 0
HasNoLines Faults set path error.NoSyntax =
    (line : List ℕ) × IsUtf8 line
    × (option_or (found_for_file set path line) (found_plain_text set) ≡ None)
HasNoLines Faults set path (error.Io e) = Faults e
HasNoLines Faults set path e =
    OnlyParsing (λ e. (syntax : SyntaxReference) × IsSyntaxFor set path syntax
    × LacksStart syntax (error.ParsingError e)) e

-- There is no plain text to stand in for the syntax of a file whose first line reached the limit,
-- or it has no `__start`.
pub record LacksInstead (limits : Limits) (set : SyntaxSet) (path : List ℕ) (e : Error) : Type 0 where
  pub limited : limit_of limits.steps ≢ None
  pub unnamed : found_by_file_name set path ≡ None
  pub lacks : ((found_plain_text set ≡ None) × (e ≡ error.NoSyntax))
      ⊎ ((syntax : SyntaxReference) × (found_plain_text set ≡ Some syntax) × LacksStart syntax e)

-- the same where the first line is searched within limits
abbrev pub HasNoLinesWithin : (Faults : IoError → Type 0) → Limits → SyntaxSet → List ℕ → Error
    → Type 0
HasNoLinesWithin Faults limits set path e =
    HasNoLines Faults set path e ⊎ LacksInstead limits set path e

-- a file was opened, and this is its syntax, by what it had ahead, and its text
pub record IsTextOfFile (Told : Answer → Type 0) (set : SyntaxSet) (path : List ℕ)
    (syntax : SyntaxReference) (text : List ℕ) : Type 0 where
  pub left : Option (List ℕ)
  pub told : Told (opened path left)
  pub told_by : IsToldSyntax set path left syntax
  pub whole : IsTextOf left text

-- the page shows the text of the file in its syntax
abbrev pub IsPageOfFile : (Told : Answer → Type 0) → SyntaxSet → Theme → List ℕ → List ℕ → Type 0
IsPageOfFile Told set theme path page =
    (syntax : SyntaxReference) × (text : List ℕ) × IsTextOfFile Told set path syntax text
    × IsPageOfBytes set theme syntax text page

-- there is no page: no line is read, or one is refused, or is no text, or is not read
abbrev pub HasNoPageOfFile : (Told : Answer → Type 0) → SyntaxSet → List ℕ → Error → Type 0
HasNoPageOfFile Told set path e =
    HasNoLines (IsFileFault Told path) set path e
    ⊎ ((syntax : SyntaxReference) × (text : List ℕ) × IsTextOfFile Told set path syntax text
    × IsStopped (λ e. Told (not_read_on path e)) set syntax text e)
