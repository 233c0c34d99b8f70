-- One style sheet for two themes.
use Rattle.std.specs.Prelude.{ℕ, List, ◌++◌, codes}
use Rattle.syntect_documents.specs.declared.sheet.Choice.{Choice}
use Rattle.syntect_documents.specs.declared.sheet.Choice.TheVariants.{Preference, RootClass}

-- where the light theme holds
abbrev pub light_head : Choice → List ℕ
light_head Preference = codes "@media (prefers-color-scheme: light)"
light_head RootClass = codes ":root:not(.dark)"

-- where the dark theme holds
abbrev pub dark_head : Choice → List ℕ
dark_head Preference = codes "@media (prefers-color-scheme: dark)"
dark_head RootClass = codes ":root.dark"

-- a sheet in a block
abbrev pub block : List ℕ → List ℕ → List ℕ
block head sheet = head ++ (codes " {\n" ++ (sheet ++ codes "}\n"))

-- a light sheet and a dark one, each in a block of its own
abbrev pub two_sheets : Choice → List ℕ → List ℕ → List ℕ
two_sheets by light dark = block (light_head by) light ++ block (dark_head by) dark
