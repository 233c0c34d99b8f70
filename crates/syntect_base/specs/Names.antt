-- The names in a folder.
use Rattle.std.specs.Prelude.{ℕ, ◌-◌, ◌==◌, Bool, ◌||◌, if◌then◌else◌, List, [], length, drop, codes, bytes_eq, Option, Some, None}
use Rattle.std.specs.List.{ends_with, filter_map, slice_split}
use Rattle.std.specs.Str.{is_utf8, str_eq_ignore_ascii_case}
use Rattle.syntect_base.specs.declared.utils.Sought.{Sought}
use Rattle.syntect_base.specs.declared.utils.Sought.TheVariants.{Grammars, Themes}

-- the name may be that of a file that is looked for
abbrev pub is_sought : Sought → List ℕ → Bool
is_sought Grammars name = ends_with ◌==◌ name (codes ".sublime-syntax")
is_sought Themes name = str_eq_ignore_ascii_case (drop (length name - 8) name) (codes ".tmTheme")

-- the name of an entry, which the folder itself and the one above it are not
abbrev pub entry_name : List ℕ → Option (List ℕ)
entry_name name =
    if bytes_eq name [] || bytes_eq name (codes ".") || bytes_eq name (codes "..") then None
    else Some name

-- the name of an entry from its bytes, which one that is no text is not
abbrev pub entry_of : List ℕ → Option (List ℕ)
entry_of name = if is_utf8 name then entry_name name else None

-- what this makes of the names among bytes in which a NUL comes after each
abbrev pub named : (List ℕ → Option (List ℕ)) → List ℕ → List (List ℕ)
named f bytes = filter_map f (slice_split (λ b. b == 0) bytes)

-- the names of entries among bytes in which a NUL comes after each
abbrev pub entries_in : List ℕ → List (List ℕ)
entries_in bytes = named entry_of bytes

-- a name that is no text, so that no path leads there, and that may be that of a file that is
-- looked for
abbrev pub lost_of : Sought → List ℕ → Option (List ℕ)
lost_of sought name =
    if is_utf8 name then None else (if is_sought sought name then Some name else None)

-- the names of files that are looked for to which no path leads, among bytes in which a NUL comes
-- after each
abbrev pub lost_in : Sought → List ℕ → List (List ℕ)
lost_in sought bytes = named (lost_of sought) bytes
