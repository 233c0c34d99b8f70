-- Which syntax of a set is found: the last one that fits.
use Rattle.std.specs.Prelude.{◌≡◌, ◌≢◌, ℕ, ◌==◌, Bool, false, ◌||◌, List, [], ◌∷◌, reverse, drop, find, codes, is_some, IsUtf8, Option, None, slice_get, unwrap_or, if◌then◌else◌}
use Rattle.std.specs.Option.{option_or, option_map_or, option_and_then}
use Rattle.std.specs.List.{list_any, starts_with, ends_with}
use Rattle.std.specs.Path.{path_file_name, path_extension}
use Rattle.std.specs.Str.{str_eq_ignore_ascii_case}
use Rattle.std.specs.Cmp.Lexicographic.{pointwise}
use Rattle.std.specs.IoError.{error_kind}
use Rattle.std.specs.declared.io.ErrorKind.TheVariants.{OutOfMemory}
use Rattle.syntect_grammar.specs.syntect_base.Trees.{Answer, begins, RefusesLine}
use Rattle.syntect_grammar.specs.syntect_pattern.Pattern.{pattern_found}
use Rattle.syntect_grammar.specs.Link.{syntaxes_in, set_paths}
use Rattle.syntect_grammar.specs.declared.error.Error.{Error}
use Rattle.syntect_grammar.specs.declared.error.Error.TheVariants.{Io, Memory}
use Rattle.syntect_grammar.specs.syntect_grammar_contexts.declared.syntax_reference.SyntaxReference.{SyntaxReference}
use Rattle.syntect_grammar.specs.declared.syntax_set.SyntaxSet.{SyntaxSet}

-- the last of a list that passes a test
abbrev pub last_fitting : {X : Type 0} → (X → Bool) → List X → Option X
last_fitting fits xs = find fits (reverse xs)

-- the last syntax of this scope
abbrev pub found_by_scope : SyntaxSet → List ℕ → Option SyntaxReference
found_by_scope set scope = last_fitting (λ s. pointwise ◌==◌ s.scope scope) (syntaxes_in set)

-- the last syntax of this name
abbrev pub found_by_name : SyntaxSet → List ℕ → Option SyntaxReference
found_by_name set name = last_fitting (λ s. pointwise ◌==◌ s.name name) (syntaxes_in set)

-- whether a syntax has this extension, the case of ASCII letters aside
abbrev pub has_extension : List ℕ → SyntaxReference → Bool
has_extension extension s = list_any (λ e. str_eq_ignore_ascii_case e extension) s.file_extensions

-- the last syntax of this extension
abbrev pub found_by_extension : SyntaxSet → List ℕ → Option SyntaxReference
found_by_extension set extension = last_fitting (has_extension extension) (syntaxes_in set)

-- the last syntax of this extension, or else the last of this name, the case of ASCII letters aside
abbrev pub found_by_token : SyntaxSet → List ℕ → Option SyntaxReference
found_by_token set token =
    option_or (found_by_extension set token)
    (last_fitting (λ s. str_eq_ignore_ascii_case s.name token) (syntaxes_in set))

-- the syntax of text without markup
abbrev pub found_plain_text : SyntaxSet → Option SyntaxReference
found_plain_text set = found_by_name set (codes "Plain Text")

-- the byte order mark U+FEFF in UTF-8
abbrev pub mark : List ℕ
mark = 0xEF ∷ 0xBB ∷ 0xBF ∷ []

-- a line without the byte order mark that it may begin with
abbrev pub without_mark : List ℕ → List ℕ
without_mark line = if starts_with ◌==◌ line mark then drop 3 line else line

-- whether the first-line pattern of a syntax is found in a line
abbrev pub fits_line : List ℕ → SyntaxReference → Bool
fits_line line s =
    option_map_or (λ pattern. is_some (pattern_found pattern line 0)) s.first_line false

-- the last syntax whose first-line pattern is found in the line
abbrev pub found_by_first_line : SyntaxSet → List ℕ → Option SyntaxReference
found_by_first_line set line = last_fitting (fits_line (without_mark line)) (syntaxes_in set)

-- whether a whole path is this one, or ends with it after a slash
abbrev pub ends_in_path : List ℕ → List ℕ → Bool
ends_in_path whole path = pointwise ◌==◌ whole path || ends_with ◌==◌ whole (47 ∷ path)

-- the syntax that was loaded last from a file of this path
abbrev pub found_by_path : SyntaxSet → List ℕ → Option SyntaxReference
found_by_path set path =
    option_and_then (λ entry. slice_get (syntaxes_in set) entry.1)
    (last_fitting (λ entry. ends_in_path entry.0 path) (set_paths set))

-- What the path of a file tells: the last syntax that has the file's whole name as its extension,
-- or else the last of the name's extension. A path without a name, or a name without an extension,
-- has an empty one.
abbrev pub found_by_file_name : SyntaxSet → List ℕ → Option SyntaxReference
found_by_file_name set path =
    option_or (found_by_extension set (unwrap_or (path_file_name path) []))
    (found_by_extension set (unwrap_or (path_extension path) []))

-- what the path of a file tells, or else its first line
abbrev pub found_for_file : SyntaxSet → List ℕ → List ℕ → Option SyntaxReference
found_for_file set path line =
    option_or (found_by_file_name set path) (found_by_first_line set line)

-- The syntax of a file: its path tells it, or else the first line that was read of it.
abbrev pub IsFoundFor : (Told : Answer → Type 0) → SyntaxSet → List ℕ → Option SyntaxReference
    → Type 0
IsFoundFor Told set path found =
    (line : List ℕ) × IsUtf8 line × (found ≡ found_for_file set path line)
    × (found_by_file_name set path ≡ None → Told (begins path line))

-- The file is asked, as its path tells nothing; and it gave no first line, for a fault that is not
-- that memory ran out, or there was no memory.
abbrev pub NotFoundFor : (Told : Answer → Type 0) → SyntaxSet → List ℕ → Error → Type 0
NotFoundFor Told set path (Io e) =
    (found_by_file_name set path ≡ None) × (error_kind e ≢ OutOfMemory) × RefusesLine Told path e
NotFoundFor Told set path Memory = found_by_file_name set path ≡ None
NotFoundFor Told set path e = ⊥
